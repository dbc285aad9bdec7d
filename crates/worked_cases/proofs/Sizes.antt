-- Two controllers that could be hung together but for their sizes: these alone decide.
use Rattle.std.proofs.Common.{◌≡◌, ℕ, ◌^◌, true, false, ◌&&◌, ◌||◌, leb, Ok, refl, ◌∙◌, ap₂}
use Rattle.std.proofs.lemmas.Bool.{or_from}
use Rattle.controller.specs.declared.refusal.Refusal.TheVariants.{TooLarge}
use Rattle.controller.specs.Meaning.{Meaning, most_width, most_span}
use Rattle.controller.specs.Rules.Asks.{so, otherwise}
use Rattle.controller.proofs.Asking.{asks-yes, asks-no}
use Rattle.cascade.specs.Fit.{is_serving, is_small, Checks}
use Rattle.worked_cases.specs.Exactly.{Only, RefusedWith}
use Rattle.worked_cases.specs.States.{Together}

module _ (a b : Meaning) (k width span : ℕ) (h : Together a k b width span) where
  -- Nothing is in service in either.
  resting : (is_serving a || is_serving b) ≡ false
  resting = or_from _ _ h.outer_rests h.inner_rests

  -- Whether they are small enough, by what they come to together.
  small : is_small a b ≡ (leb width most_width && leb span most_span)
  small = ap₂ (λ w s. leb w most_width && leb s most_span) h.wide h.long

  fits : (leb width most_width && leb span most_span) ≡ true → Only (Checks a k b) (Ok tt)
  fits e = (
    so h.fleeting (otherwise resting (so (small ∙ e) refl)),
    λ r c. asks-yes _ _ _ (small ∙ e) (asks-no _ _ _ resting (asks-yes _ _ _ h.fleeting c)),
  )

  too_large : (leb width most_width && leb span most_span) ≡ false → RefusedWith 14 (Checks a k b)
  too_large e = (
    TooLarge,
    refl,
    (
      so h.fleeting (otherwise resting (otherwise (small ∙ e) refl)),
      λ r c. asks-no _ _ _ (small ∙ e) (asks-no _ _ _ resting (asks-yes _ _ _ h.fleeting c)),
    ),
  )

pub largest_fit : (a b : Meaning) (k : ℕ) → Together a k b 256 (2 ^ 31) → Only (Checks a k b) (Ok tt)
largest_fit a b k h = fits a b k 256 (2 ^ 31) h refl

pub too_wide : (a b : Meaning) (k span : ℕ) → Together a k b 264 span → RefusedWith 14 (Checks a k b)
too_wide a b k span h = too_large a b k 264 span h refl
