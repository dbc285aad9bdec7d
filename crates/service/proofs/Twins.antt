-- Two dispatchers whose controllers tell alike: each call brings back the same from both.
use Rattle.std.proofs.Common.{◌≡◌, ℕ, ◌+◌, ◌<◌, ◌≤◌, Bool, true, false, cond, not, ◌&&◌, ◌||◌, eqb, List, [], ◌∷◌, length, Some, None, Option, Result, sym, refl, ap, ◌∙◌, subst, ap₂, subst₂, ⊎_elim, arith}
use Rattle.std.proofs.lemmas.Bool.{false≢true, true≢false, both_ways, false_from_ne_true, cases_lt}
use Rattle.controller.specs.declared.refusal.Refusal.{Refusal}
use Rattle.controller.specs.declared.answer.Answer.{Answer}
use Rattle.controller.specs.declared.answer.Answer.TheVariants.{Accepted, Withdrawn, Noted}
use Rattle.controller.specs.Meaning.{State, Meaning, in_service, among, Beats, Ready, FirstReady}
use Rattle.controller.specs.Rules.{Asks, so, otherwise, Gives, Turns, Takes, marked, idle, risen, fallen, opening, taken, finished, onward, older}
use Rattle.controller.proofs.Stacks.{among-head, tops-among}
use Rattle.service.specs.declared.entry.Entry.{Entry}
use Rattle.service.specs.declared.entry.Mark.TheVariants.{Held}
use Rattle.service.specs.Nests.{most_depth, entry, held, newest_is, newest_parked, parked, removed}
use Rattle.service.specs.Calls.{Call, Reply, passed_on}
use Rattle.service.specs.Calls.Call.{Rise, Fall, Open, Shut, Park, Close, Finish, Take}
use Rattle.service.specs.Calls.Reply.{Answered, Start, Spurious, End}
use Rattle.service.specs.Steps.{Snapshot, Step, Refuses, Writes, Ends}
use Rattle.service.specs.Runs.{Fresh}
use Rattle.service.specs.Law.{Alike}
use Rattle.service.proofs.Moves.{Kept, put, ends-view, snapshot-same}

-- What two such dispatchers have in common after any calls; of marks, classes and ranks only those of lines.
pub record Twin (s t : Snapshot) : Type 0 where
  pub lines : (n : ℕ) → s.meaning.fixed.line n ≡ t.meaning.fixed.line n
  pub classes : (n : ℕ) → s.meaning.fixed.line n ≡ true → s.meaning.fixed.class n ≡ t.meaning.fixed.class n
  pub ranks : (a b : ℕ) → s.meaning.fixed.line a ≡ true → s.meaning.fixed.line b ≡ true → s.meaning.fixed.rank a < s.meaning.fixed.rank b → t.meaning.fixed.rank a < t.meaning.fixed.rank b
  pub falls : (n : ℕ) → s.meaning.fixed.line n ≡ true → s.meaning.fixed.fleeting n ≡ t.meaning.fixed.fleeting n
  pub opens : (n : ℕ) → s.meaning.fixed.line n ≡ true → s.meaning.state.opened n ≡ t.meaning.state.opened n
  pub highs : (n : ℕ) → s.meaning.fixed.line n ≡ true → s.meaning.state.high n ≡ t.meaning.state.high n
  pub waits : (n : ℕ) → s.meaning.fixed.line n ≡ true → s.meaning.state.waiting n ≡ t.meaning.state.waiting n
  pub stack : s.meaning.state.stack ≡ t.meaning.state.stack
  pub nest : s.nest ≡ t.nest

-- A question with the same answer on both sides.
both : {P Q P' Q' : Type 0} {b b' : Bool} (R : Type 0) → b ≡ b' → Asks b P Q → Asks b' P' Q' → (b ≡ true → P → P' → R) → (Q → Q' → R) → R
both R e (so p x) (so p' y) f g = f p x y
both R e (so p x) (otherwise p' y) f g = absurd (true≢false (sym p ∙ e ∙ p'))
both R e (otherwise p x) (so p' y) f g = absurd (false≢true (sym p ∙ e ∙ p'))
both R e (otherwise p x) (otherwise p' y) f g = g x y

-- The replies of both, and what is left of both.
pub record Level (r q : Reply) (s t : Snapshot) : Type 0 where
  pub said : r ≡ q
  pub twin : Twin s t

module _ (s t : Snapshot) (k : Kept s) (l : Kept t) (w : Twin s t) where
  level : {r q r₀ q₀ : Reply} {s' t' s₀ t₀ : Snapshot} → r ≡ r₀ → s' ≡ s₀ → q ≡ q₀ → t' ≡ t₀ → r₀ ≡ q₀ → Twin s₀ t₀ → Level r q s' t'
  level p e p' e' a b = record { said = p ∙ a ∙ sym p'; twin = subst₂ Twin (sym e) (sym e') b }

  -- Marks that agree on every line, and do so after one is set.
  abbrev Agree : (ℕ → Bool) → (ℕ → Bool) → Type 0
  Agree f g = (j : ℕ) → s.meaning.fixed.line j ≡ true → f j ≡ g j

  agree-set : (f g : ℕ → Bool) (n : ℕ) (b c : Bool) → b ≡ c → Agree f g → Agree (marked f n b) (marked g n c)
  agree-set f g n b c p e j h = ap₂ (cond (eqb j n)) p (e j h)

  twin-put : (u v : State) (es fs : List Entry) → Agree u.opened v.opened → Agree u.high v.high → Agree u.waiting v.waiting → u.stack ≡ v.stack → es ≡ fs → Twin (put s u es) (put t v fs)
  twin-put u v es fs o h wa st ne = record {
    lines = w.lines;
    classes = w.classes;
    ranks = w.ranks;
    falls = w.falls;
    opens = o;
    highs = h;
    waits = wa;
    stack = st;
    nest = ne;
  }

  same-service : (n : ℕ) → in_service s.meaning.state n ≡ in_service t.meaning.state n
  same-service n = ap (among n) w.stack

  same-idle : (n : ℕ) → s.meaning.fixed.line n ≡ true → idle s.meaning.state n ≡ idle t.meaning.state n
  same-idle n h = ap₂ (λ a b. not (a || b)) (w.waits n h) (same-service n)

  twin-risen : (n : ℕ) → s.meaning.fixed.line n ≡ true → Twin (put s (risen s.meaning.state n) s.nest) (put t (risen t.meaning.state n) t.nest)
  twin-risen n h = twin-put _ _ _ _ w.opens
      (agree-set _ _ n _ _ refl w.highs)
      (agree-set _ _ n _ _ (ap₂ ◌||◌ (w.waits n h) (same-idle n h)) w.waits)
      w.stack w.nest

  twin-fallen : (n : ℕ) → s.meaning.fixed.line n ≡ true → Twin (put s (fallen s.meaning.fixed s.meaning.state n) s.nest) (put t (fallen t.meaning.fixed t.meaning.state n) t.nest)
  twin-fallen n h = twin-put _ _ _ _ w.opens
      (agree-set _ _ n _ _ refl w.highs)
      (agree-set _ _ n _ _ (ap₂ (λ a b. a && not b) (w.waits n h) (w.falls n h)) w.waits)
      w.stack w.nest

  twin-opening : (n : ℕ) (b : Bool) → Twin (put s (opening s.meaning.state n b) s.nest) (put t (opening t.meaning.state n b) t.nest)
  twin-opening n b = twin-put _ _ _ _ (agree-set _ _ n _ _ refl w.opens) w.highs w.waits w.stack w.nest

  twin-parked : (n : ℕ) → Twin (put s s.meaning.state (parked n s.nest)) (put t t.meaning.state (parked n t.nest))
  twin-parked n = twin-put _ _ _ _ w.opens w.highs w.waits w.stack (ap (parked n) w.nest)

  twin-taken : (n m : ℕ) → n ≡ m → Twin (put s (taken s.meaning.state n) (entry n Held ∷ s.nest)) (put t (taken t.meaning.state m) (entry m Held ∷ t.nest))
  twin-taken n m p = subst (λ m. Twin (put s (taken s.meaning.state n) (entry n Held ∷ s.nest)) (put t (taken t.meaning.state m) (entry m Held ∷ t.nest))) p
      (twin-put _ _ _ _ w.opens w.highs (agree-set _ _ n _ _ refl w.waits) (ap (λ ys. n ∷ ys) w.stack) (ap (λ ys. entry n Held ∷ ys) w.nest))

  twin-finished : (n : ℕ) → s.meaning.fixed.line n ≡ true → Twin (put s (finished s.meaning.state n) (removed s.nest)) (put t (finished t.meaning.state n) (removed t.nest))
  twin-finished n h = twin-put _ _ _ _ w.opens w.highs (agree-set _ _ n _ _ (w.highs n h) w.waits) (ap older w.stack) (ap removed w.nest)

  same-beats : (n : ℕ) → s.meaning.fixed.line n ≡ true → (xs : List ℕ) → ((j : ℕ) → among j xs ≡ true → s.meaning.fixed.line j ≡ true) → Beats s.meaning.fixed n xs → Beats t.meaning.fixed n xs
  same-beats n h [] line b = tt
  same-beats n h (x ∷ xs) line b = subst₂ ◌<◌ (w.classes n h) (w.classes x (line x (among-head x xs))) b

  pub ready-too : (n : ℕ) → Ready s.meaning n → Ready t.meaning n
  ready-too n r = record {
    line = sym (w.lines n) ∙ r.line;
    opened = sym (w.opens n r.line) ∙ r.opened;
    waiting = sym (w.waits n r.line) ∙ r.waiting;
    urgent = subst (Beats t.meaning.fixed n) w.stack (same-beats n r.line s.meaning.state.stack k.lawful.state.served_line r.urgent);
  }

  -- The first ready line is the same on both sides: ranks are distinct, and of two lines the same has the smaller.
  same_first : (n m : ℕ) → FirstReady s.meaning n → FirstReady t.meaning m → Ready s.meaning m → n ≡ m
  same_first n m f g r =
      let u : s.meaning.fixed.rank n ≤ s.meaning.fixed.rank m = f.first m r in
      let v : t.meaning.fixed.rank m ≤ t.meaning.fixed.rank n = g.first n (ready-too n f.ready) in
      ⊎_elim
      (λ h. let lt : t.meaning.fixed.rank n < t.meaning.fixed.rank m = w.ranks n m f.ready.line r.line h in absurd (omega arith))
      (λ h. k.lawful.fixed.own n m f.ready.line r.line (omega arith))
      (cases_lt (s.meaning.fixed.rank n) (s.meaning.fixed.rank m))

  refused-both : {r q : Reply} {s' t' : Snapshot} (x : Refusal) → Refuses x s r s' → Refuses x t q t' → Level r q s' t'
  refused-both x (p, e) (p', e') = level p e p' e' refl w

  passed-both : {r q : Reply} {s' t' : Snapshot} (a b : Result Answer Refusal) (x y : Answer) (u v : State) → Gives x u s.meaning a s'.meaning → Gives y v t.meaning b t'.meaning → r ≡ passed_on a → q ≡ passed_on b → s'.nest ≡ s.nest → t'.nest ≡ t.nest → x ≡ y → Twin (put s u s.nest) (put t v t.nest) → Level r q s' t'
  passed-both {s' = s'} {t' = t'} a b x y u v g h p p' e e' z tw = level (p ∙ ap passed_on g.0) (snapshot-same s' (onward s.meaning u) s.nest g.1 e) (p' ∙ ap passed_on h.0) (snapshot-same t' (onward t.meaning v) t.nest h.1 e') (ap Answered z) tw

  turned-both : {r q : Reply} {s' t' : Snapshot} (a b : Result Answer Refusal) (x : Refusal) → Turns x s.meaning a s'.meaning → Turns x t.meaning b t'.meaning → r ≡ passed_on a → q ≡ passed_on b → s'.nest ≡ s.nest → t'.nest ≡ t.nest → Level r q s' t'
  turned-both {s' = s'} {t' = t'} a b x g h p p' e e' = level (p ∙ ap passed_on g.0) (snapshot-same s' s.meaning s.nest g.1 e) (p' ∙ ap passed_on h.0) (snapshot-same t' t.meaning t.nest h.1 e') refl w

  ended-both : {r q : Reply} {s' t' : Snapshot} (n : ℕ) → Ends n s r s' → Ends n t q t' → Level r q s' t'
  ended-both {r} {q} {s'} {t'} n x y =
      let u = ends-view s s' r n x in
      let v = ends-view t t' q n y in
      let line : s.meaning.fixed.line n ≡ true = k.lawful.state.served_line n (tops-among n s.meaning.state.stack u.0) in
      level u.1 u.2 v.1 v.2
      (ap₂ (λ a b. End n a (cond b Accepted Noted)) (ap length w.nest) (w.highs n line))
      (twin-finished n line)

  took-both : {r q : Reply} {s' t' : Snapshot} (o p : Option ℕ) → ((n : ℕ) → Ready t.meaning n → Ready s.meaning n) → Takes s.meaning o s'.meaning → Writes o s r s' → Takes t.meaning p t'.meaning → Writes p t q t' → Level r q s' t'
  took-both {s' = s'} {t' = t'} None None back (x, y) (a, b) (x', y') (a', b') = level a (snapshot-same s' s.meaning s.nest y b) a' (snapshot-same t' t.meaning t.nest y' b') (ap Spurious (ap length w.nest)) w
  took-both None (Some m) back (x, y) (a, b) (x', y') (a', b') = absurd (x m (back m x'.ready))
  took-both (Some n) None back (x, y) (a, b) (x', y') (a', b') = absurd (x' n (ready-too n x.ready))
  took-both {s' = s'} {t' = t'} (Some n) (Some m) back (x, y) (a, b) (x', y') (a', b') =
      let z : n ≡ m = same_first n m x x' (back m x'.ready) in
      level a (snapshot-same s' _ _ y b) a' (snapshot-same t' _ _ y' b') (ap₂ (λ i j. Start i (j + 1)) z (ap length w.nest)) (twin-taken n m z)

  pub same_step : {r q : Reply} {s' t' : Snapshot} (c : Call) → ((n : ℕ) → Ready t.meaning n → Ready s.meaning n) → Step s c r s' → Step t c q t' → Level r q s' t'
  same_step {r} {q} {s'} {t'} (Rise n) back (a, g, p, e) (b, h, p', e') = both (Level r q s' t') (w.lines n) g h
      (λ i x y. passed-both a b _ _ _ _ x y p p' e e' (ap (λ z. cond z Accepted Noted) (same-idle n i)) (twin-risen n i))
      (λ x y. turned-both a b _ x y p p' e e')
  same_step {r} {q} {s'} {t'} (Fall n) back (a, g, p, e) (b, h, p', e') = both (Level r q s' t') (w.lines n) g h
      (λ i x y. passed-both a b _ _ _ _ x y p p' e e' (ap₂ (λ u v. cond (u && v) Withdrawn Noted) (w.waits n i) (w.falls n i)) (twin-fallen n i))
      (λ x y. turned-both a b _ x y p p' e e')
  same_step {r} {q} {s'} {t'} (Open n) back (a, g, p, e) (b, h, p', e') = both (Level r q s' t') (w.lines n) g h
      (λ i x y. passed-both a b _ _ _ _ x y p p' e e' refl (twin-opening n true))
      (λ x y. turned-both a b _ x y p p' e e')
  same_step {r} {q} {s'} {t'} (Shut n) back (a, g, p, e) (b, h, p', e') = both (Level r q s' t') (w.lines n) g h
      (λ i u v. both (Level r q s' t') (same-service n) u v
      (λ _ x y. turned-both a b _ x y p p' e e')
      (λ x y. passed-both a b _ _ _ _ x y p p' e e' refl (twin-opening n false)))
      (λ x y. turned-both a b _ x y p p' e e')
  same_step {r} {q} {s'} {t'} (Park n) back g h = both (Level r q s' t') (ap (held n) w.nest) g h
      (λ _ x y. level x.0 x.1 y.0 y.1 refl (twin-parked n))
      (λ x y. refused-both _ x y)
  same_step {r} {q} {s'} {t'} (Close n) back g h = both (Level r q s' t') (ap (held n) w.nest) g h
      (λ _ u v. both (Level r q s' t') (ap (newest_is n) w.nest) u v (λ _ x y. ended-both n x y) (λ x y. refused-both _ x y))
      (λ x y. refused-both _ x y)
  same_step {r} {q} {s'} {t'} (Finish n) back g h = both (Level r q s' t') (w.lines n) g h
      (λ _ g₁ h₁. both (Level r q s' t') (ap (newest_is n) w.nest) g₁ h₁
      (λ _ g₂ h₂. both (Level r q s' t') (ap newest_parked w.nest) g₂ h₂ (λ _ x y. ended-both n x y) (λ x y. refused-both _ x y))
      (λ x y. refused-both _ x y))
      (λ x y. refused-both _ x y)
  same_step {r} {q} {s'} {t'} Take back g h = both (Level r q s' t') (ap (λ es. eqb (length es) most_depth) w.nest) g h
      (λ _ x y. level x.0 x.1 y.0 y.1 refl w)
      (λ x y. took-both x.0 y.0 back x.1 x.2 y.1 y.2)

low : (s : Snapshot) → Fresh s → (n : ℕ) → s.meaning.fixed.line n ≡ true → s.meaning.state.high n ≡ false
low s f n h = false_from_ne_true _ (λ b. both_ways _ (f.quiet.waits n h) (f.lawful.state.high_waits n h b (ap (among n) f.quiet.serves)))

pub fresh-twin : (s t : Snapshot) → Fresh s → Fresh t → Alike s.meaning t.meaning → Twin s t
fresh-twin s t f g a = record {
  lines = a.lines;
  classes = a.classes;
  ranks = λ x y h i. (a.ranks x y h i).0;
  falls = a.falls;
  opens = a.opens;
  highs = λ n h. low s f n h ∙ sym (low t g n (sym (a.lines n) ∙ h));
  waits = λ n h. f.quiet.waits n h ∙ sym (g.quiet.waits n (sym (a.lines n) ∙ h));
  stack = f.quiet.serves ∙ sym g.quiet.serves;
  nest = f.empty ∙ sym g.empty;
}

pub alike-back : (m w : Meaning) → Alike m w → Alike w m
alike-back m w a = record {
  lines = λ n. sym (a.lines n);
  classes = λ n h. sym (a.classes n (a.lines n ∙ h));
  ranks = λ x y h i. ((a.ranks x y (a.lines x ∙ h) (a.lines y ∙ i)).1, (a.ranks x y (a.lines x ∙ h) (a.lines y ∙ i)).0);
  falls = λ n h. sym (a.falls n (a.lines n ∙ h));
  opens = λ n h. sym (a.opens n (a.lines n ∙ h));
}
