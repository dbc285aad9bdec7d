-- A call of a pile on one line, for any rule: refused, handed to the outer, or handed to the inner and k told.
use Rattle.std.proofs.Common.{◌≡◌, ℕ, ◌+◌, ◌<◌, Bool, false, ◌&&◌, ◌≢◌, Some, Ok, Err, Result, sym, refl, ap, ◌∙◌, subst, ap₂, ⊎_elim}
use Rattle.controller.specs.declared.telling.Controller.{Ghosts}
use Rattle.controller.specs.declared.refusal.Refusal.{Refusal}
use Rattle.controller.specs.declared.refusal.Refusal.TheVariants.{NotALine}
use Rattle.controller.specs.declared.answer.Answer.{Answer}
use Rattle.controller.specs.Telling.{meaning}
use Rattle.controller.specs.Meaning.{Meaning, Lawful}
use Rattle.cascade.specs.declared.pile.Cascade.{Cascade}
use Rattle.cascade.specs.declared.pile.Part.{Part}
use Rattle.cascade.specs.declared.pile.Part.TheVariants.{Outer, Inner}
use Rattle.cascade.specs.Pile.{pile}
use Rattle.cascade.specs.Tie.{Hanging, Tied}
use Rattle.controller.proofs.Refused.{Rule, RefusedSame}
use Rattle.cascade.specs.Inside.{Informs, KeepsBoth, Passes}
use Rattle.cascade.specs.Parts.{part_of}
use Rattle.cascade.specs.Told.{meant, Joined, Sound}
use Rattle.cascade.specs.Sides.{side-outer, side-inner, line-k, line-outer, line-inner}
use Rattle.cascade.specs.Laws.{k-in}
use Rattle.cascade.specs.Lawful.{asked, asked-void}
use Rattle.cascade.proofs.Goes.{went, goes, calls-pass, told-goes}
use Rattle.cascade.proofs.Owners.{Has, has-told}

-- A number that is no line is refused.
abbrev pub Refuses : Rule → Type 0
Refuses Q = (m : Meaning) (n : ℕ) → m.fixed.line n ≡ false → Q m n (Err NotALine) m

-- An outer line other than k.
abbrev pub PassesOuter : Rule → Type 0
PassesOuter Q = (a : Meaning) (k : ℕ) (b : Meaning) → Lawful a → Lawful b → Tied a k b → (n : ℕ) → n < a.fixed.width → n ≢ k → (r : Result Answer Refusal) (a' : Meaning) → Q a n r a' → Tied a' k b × Q (pile a k b) n r (pile a' k b)

-- An inner line.
abbrev pub PassesInner : Rule → Type 0
PassesInner Q = (a : Meaning) (k : ℕ) (b : Meaning) → Lawful a → Lawful b → Hanging a k b → (m : ℕ) (r : Result Answer Refusal) (b' : Meaning) → Q b m r b' → Hanging a k b' × Q (pile a k b) (a.fixed.width + m) r (pile a k b')

module _ {S T : Type 0} (O : Ghosts S) (I : Ghosts T) (lawO : (o : S) → O.sound o → Lawful (meaning O o)) (lawI : (i : T) → I.sound i → Lawful (meaning I i)) (p : Cascade S T) (sound : Sound O I p) where
  abbrev a : Meaning
  a = meaning O p.outer

  abbrev b : Meaning
  b = meaning I p.inner

  module _ (k : ℕ) (at : p.k ≡ Some k) where
    abbrev pub q : Joined O I p k
    q = sound k at

    pub la : Lawful a
    la = lawO p.outer q.outer

    pub lb : Lawful b
    lb = lawI p.inner q.inner

    pub kw : k < a.fixed.width
    kw = k-in a k b la lb q.tied.hanging

  module _ (n : ℕ) where
    -- The part as the call `part` told it.
    abbrev pub IsPart : Result Part Refusal → Type 0
    IsPart part = part ≡ part_of p.k (O.widths p.outer) n

    pub has : (part : Result Part Refusal) → IsPart part → Has p.k a.fixed.width n part
    has part told = has-told p.k (O.widths p.outer) n part told

    -- A number in neither part is no line.
    pub neither-line : (e : Refusal) → IsPart (Err e) → (meant O I p).fixed.line n ≡ false
    neither-line e told =
        ⊎_elim
        (λ unfit. asked-void O I p (λ x. x.fixed.line n ≡ false) unfit refl)
        (λ at. asked O I p (λ x. x.fixed.line n ≡ false) n at (line-k a.fixed n b.fixed (kw n at)))
        (has (Err e) told).1

    pub neither-fleeting : (e : Refusal) → IsPart (Err e) → false ≡ ((meant O I p).fixed.line n && (meant O I p).fixed.fleeting n)
    neither-fleeting e told = sym (ap (λ b. b && (meant O I p).fixed.fleeting n) (neither-line e told))

    -- Whether n is a line, and whether it is a fleeting one, as the part that has it tells.
    module _ (r : Bool) where
      pub outer-line : IsPart (Ok Outer) → (O.sound p.outer → r ≡ O.lines p.outer n) → r ≡ (meant O I p).fixed.line n
      outer-line told e =
          let h = has (Ok Outer) told in
          asked O I p (λ x. r ≡ x.fixed.line n) h.0 h.1 (e (q h.0 h.1).outer ∙ sym (line-outer a.fixed h.0 b.fixed n h.2 h.3))

      pub inner-line : (k m : ℕ) → IsPart (Ok (Inner k m)) → (I.sound p.inner → r ≡ I.lines p.inner m) → r ≡ (meant O I p).fixed.line n
      inner-line k m told e =
          let h = has (Ok (Inner k m)) told in
          asked O I p (λ x. r ≡ x.fixed.line n) k h.0 (e (q k h.0).inner ∙ sym (ap (pile a k b).fixed.line (sym h.1) ∙ line-inner a.fixed k b.fixed m))

      pub outer-fleeting : IsPart (Ok Outer) → (O.sound p.outer → r ≡ (O.lines p.outer n && O.fleets p.outer n)) → r ≡ ((meant O I p).fixed.line n && (meant O I p).fixed.fleeting n)
      outer-fleeting told e =
          let h = has (Ok Outer) told in
          asked O I p (λ x. r ≡ (x.fixed.line n && x.fixed.fleeting n)) h.0 h.1
          (e (q h.0 h.1).outer ∙ sym (ap₂ (λ x y. x && y) (line-outer a.fixed h.0 b.fixed n h.2 h.3) (side-outer a.fixed.width _ _ n h.2)))

      pub inner-fleeting : (k m : ℕ) → IsPart (Ok (Inner k m)) → (I.sound p.inner → r ≡ (I.lines p.inner m && I.fleets p.inner m)) → r ≡ ((meant O I p).fixed.line n && (meant O I p).fixed.fleeting n)
      inner-fleeting k m told e =
          let h = has (Ok (Inner k m)) told in
          asked O I p (λ x. r ≡ (x.fixed.line n && x.fixed.fleeting n)) k h.0
          (e (q k h.0).inner ∙ sym (subst (λ j. ((pile a k b).fixed.line j && (pile a k b).fixed.fleeting j) ≡ (b.fixed.line m && b.fixed.fleeting m)) h.1
          (ap₂ (λ x y. x && y) (line-inner a.fixed k b.fixed m) (side-inner a.fixed.width _ _ m))))

    module _ (Q : Rule) where
      pub call-neither : Refuses Q → (e : Refusal) → IsPart (Err e) → (r : Result Answer Refusal) → r ≡ Err e → Sound O I p × Q (meant O I p) n r (meant O I p)
      call-neither none e told r is = (sound, subst (λ x. Q (meant O I p) n x (meant O I p)) (sym (is ∙ ap Err (has (Err e) told).0)) (none (meant O I p) n (neither-line e told)))

      pub call-outer : PassesOuter Q → IsPart (Ok Outer) → (r : Result Answer Refusal) (o : S) → (O.sound p.outer → O.sound o × Q a n r (meaning O o)) → Sound O I (went O I p o p.inner) × Q (meant O I p) n r (meant O I (went O I p o p.inner))
      call-outer passes told r o called =
          let h = has (Ok Outer) told in
          let k = h.0 in
          let at = h.1 in
          let done = called (q k at).outer in
          goes O I p (went O I p o p.inner) k (λ m m'. Q m n r m') at refl done.0 (q k at).inner (passes a k b (la k at) (lb k at) (q k at).tied n h.2 h.3 r (meaning O o) done.1)

      pub call-inner : PassesInner Q → RefusedSame Q → (k m : ℕ) → IsPart (Ok (Inner k m)) → (r : Result Answer Refusal) (p' : Cascade S T) → p'.k ≡ p.k → KeepsBoth O I (Passes k Q m r) p.outer p.inner p'.outer p'.inner → Sound O I p' × Q (meant O I p) n r (meant O I p')
      call-inner passes same k m told (Ok x) p' kept called =
          let h = has (Ok (Inner k m)) told in
          let at = h.0 in
          let done = called (q k at).outer (q k at).inner in
          let both = told-goes a k (meaning I p'.inner) (meaning O p'.outer) (λ y. Q (pile a k b) (a.fixed.width + m) (Ok x) y) (kw k at) (passes a k b (la k at) (lb k at) (q k at).tied.hanging m (Ok x) (meaning I p'.inner) done.2.goes) done.2.tells in
          goes O I p p' k (λ m m'. Q m n (Ok x) m') at kept done.0 done.1 (both.0, subst (λ j. Q (pile a k b) j (Ok x) (pile (meaning O p'.outer) k (meaning I p'.inner))) h.1 both.1)
      call-inner passes same k m told (Err e) p' kept called =
          let h = has (Ok (Inner k m)) told in
          let at = h.0 in
          let done = called (q k at).outer (q k at).inner in
          let inside = same b m e (meaning I p'.inner) done.2.0 in
          let passed = (passes a k b (la k at) (lb k at) (q k at).tied.hanging m (Err e) (meaning I p'.inner) done.2.0).1 in
          goes O I p p' k (λ m m'. Q m n (Err e) m') at kept done.0 done.1 (
            subst (λ x. Tied x k (meaning I p'.inner)) (sym done.2.1) (subst (λ y. Tied a k y) (sym inside) (q k at).tied),
            subst (λ x. Q (pile a k b) n (Err e) (pile x k (meaning I p'.inner))) (sym done.2.1)
                (subst (λ j. Q (pile a k b) j (Err e) (pile a k (meaning I p'.inner))) h.1 passed),
          )

      -- The same of what `inside` says: the inner is called, and then the outer is told.
      pub call-inside : PassesInner Q → RefusedSame Q → (k m : ℕ) → IsPart (Ok (Inner k m)) → (r : Result Answer Refusal) (p' : Cascade S T) → p'.k ≡ p.k → (I.sound p.inner → I.sound p'.inner × Q b m r (meaning I p'.inner)) → Informs O I k r p.outer p'.inner p'.outer → Sound O I p' × Q (meant O I p) n r (meant O I p')
      call-inside passes same k m told r p' kept called informs =
          call-inner passes same k m told r p' kept (calls-pass O I Q k m r p.outer p'.outer p.inner p'.inner called informs)
