-- The register map of a PLIC with the sources below N: each register's offset, and which registers there are.
use Rattle.std.specs.Prelude.{◌≡◌, ℕ, ◌+◌, ◌*◌, ◌<◌, min, Ok, Err, Result, ◌≢◌}
use Rattle.controller.specs.declared.refusal.Refusal.{Refusal}
use Rattle.controller.specs.declared.refusal.Refusal.TheVariants.{NoSuchAddress}
use Rattle.plic.specs.declared.registers.Register.{Register}
use Rattle.plic.specs.declared.registers.Register.TheVariants.{SourcePriority, PendingWord, EnableWord, Threshold, ClaimComplete}

abbrev pub address : Register → ℕ
address (SourcePriority n) = 0x000000 + 4 * n
address (PendingWord w) = 0x001000 + 4 * w
address (EnableWord w) = 0x002000 + 4 * w
address Threshold = 0x200000
address ClaimComplete = 0x200004

-- A priority for each number below N, number 0 included, and a word for each 32 of them.
abbrev pub There : ℕ → Register → Type 0
There N (SourcePriority n) = n < min N 1024
There N (PendingWord w) = 32 * w < min N 1024
There N (EnableWord w) = 32 * w < min N 1024
There N Threshold = Unit {0}
There N ClaimComplete = Unit {0}

-- No register lies at this offset.
abbrev pub Nowhere : ℕ → ℕ → Type 0
Nowhere N offset = (g : Register) → There N g → address g ≢ offset

abbrev pub Locates : ℕ → ℕ → Result Register Refusal → Type 0
Locates N offset (Ok g) = There N g × (address g ≡ offset)
Locates N offset (Err e) = Nowhere N offset × (e ≡ NoSuchAddress)
