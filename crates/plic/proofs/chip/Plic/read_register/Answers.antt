use Rattle.std.proofs.Common.{rules}
use Rattle.plic.specs.Gateways.{is_pending}
use Rattle.plic.proofs.chip.Plic.read_register.Goals as goal

pub returns-in-PendingWord : goal.returns-in-PendingWord
returns-in-PendingWord g c = let word = c.word.ensures (λ x. is_pending x.request) (λ x b answered. answered.1) in search rules

pub returns-in-EnableWord : goal.returns-in-EnableWord
returns-in-EnableWord g c = let word = c.word-in-EnableWord.ensures (λ x. x.enabled) (λ x b answered. answered.1) in search rules
