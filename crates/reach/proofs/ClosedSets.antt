-- Passes until one adds nothing, whatever the rule: each but the last finds a member, so there are few of them; what is left in the end is the least set
-- that holds the seeds and is closed.
use Rattle.std.proofs.Common.{◌≡◌, ℕ, zero, suc, ◌+◌, ◌<◌, ◌≤◌, Bool, true, false, List, refl, sym, ap, ap₂, ◌∙◌, subst, arith}
use mathlib.Core.Logic.{inl, inr}
use mir.Syntax.{w64}
use mir.Val.{Fits}
use lib.ListN.{length, get_or}
use Rattle.sets.specs.Tests.{Is, either}
use Rattle.sets.specs.Sets.{Set, joined, within, count}
use Rattle.sets.specs.Words.{has, words_of}
use Rattle.sets.proofs.Tests.{equal_tests, either_l, either_r, either_cases}
use Rattle.sets.proofs.Sets.{within_at, within_true, within_not, within_past, count_lt, count_most}
use Rattle.sets.proofs.Words.{has_made, made_has, words_only, words_of_same, whole_made}
use Rattle.task.proofs.Walks.{Sub}
use Rattle.reach.specs.Closing.{Facts, Closes, last, adding}
use Rattle.reach.specs.Least.{held, pass, quiet, repeated, least}
use Rattle.reach.proofs.Least.{Rising, held_is, held_in, held_out, held_same, pass_more, least_passes, least_lt, least_holds, least_closed, least_only}

-- ---- one pass that adds something

module _ (X Y W : Facts) {told : Bool} (together : W.words ≡ words_of 4 (joined (has X.words) (has Y.words)))
    (tested : told ≡ within 256 (has Y.words) (has X.words)) (new : told ≡ false) where
  pub more_held : count 256 (has X.words) < count 256 (has W.words)
  unfolding joined
  more_held =
      let r = within_not 256 (has Y.words) (has X.words) (sym tested ∙ new) in
      count_lt 256 (has X.words) (has W.words)
      (λ f l h. has_made 4 W.words _ together f l ∙ either_l _ (has Y.words f) h) r.0 r.1 r.3
      (has_made 4 W.words _ together r.0 r.1 ∙ either_r (has X.words r.0) _ r.2)

  pub one_more : (gives : Facts → Facts → Type 0) {passes : ℕ} {Z : Facts} → gives X Y → Closes gives passes W Z → Closes gives (suc passes) X Z
  one_more gives {passes} {Z} g rest =
      adding g (sym tested ∙ new) (subst (λ (V : Facts). Closes gives passes V Z) (ap (λ (ws : List ℕ). record { words = ws }) together) rest)

-- ---- where passes end

-- both sets in one
abbrev pub together : Facts → Facts → Facts
together X Y = record { words = words_of 4 (joined (has X.words) (has Y.words)) }

-- of the end, the rule may give something that is not new
pub record Ended (gives : Facts → Facts → Type 0) (X : Facts) : Type 0 where
  pub given : Facts
  pub gave : gives X given
  pub nothing_new : Is (within 256 (has given.words) (has X.words))

module _ (gives : Facts → Facts → Type 0) where
  pub closes_ends : {passes : ℕ} {X Z : Facts} → Closes gives passes X Z → Ended gives Z
  closes_ends (last {Y = Y} g w) = record { given = Y; gave = g; nothing_new = w }
  closes_ends (adding g w rest) = closes_ends rest

  -- what each pass keeps true of the set is true of the end
  pub closes_keeps : (P : Facts → Type 0) → ((X Y : Facts) → P X → gives X Y → P (together X Y)) → {passes : ℕ} {X Z : Facts} → P X → Closes gives passes X Z → P Z
  closes_keeps P keep p (last g w) = p
  closes_keeps P keep p (adding {X = X} {Y = Y} g w rest) = closes_keeps P keep (keep X Y p g) rest

-- a set of facts below n, as words
pub record FactsBelow (n : ℕ) (X : Facts) : Type 0 where
  pub whole : X.words ≡ words_of 4 (has X.words)
  pub below_n : (f : ℕ) → Is (has X.words f) → f < n

-- four words with no fact past n are one
pub facts_below : (n : ℕ) (X : Facts) → length X.words ≡ 4 → ((i : ℕ) → Fits w64 (get_or X.words i 0)) → ((f : ℕ) → Is (has X.words f) → f < n) → FactsBelow n X
facts_below n X size fits facts = record { whole = words_only 4 X.words (has X.words) size (λ i. (fits i).fits) (λ f l. refl); below_n = facts }

-- with another such set it is one still
pub together_below : {n : ℕ} (X Y : Facts) → ((f : ℕ) → Is (has X.words f) → f < n) → ((f : ℕ) → Is (has Y.words f) → f < n) → FactsBelow n (together X Y)
unfolding joined
together_below X Y x y = record {
  whole = whole_made 4 _ (joined (has X.words) (has Y.words)) refl;
  below_n = λ f h. elim (either_cases (has X.words f) (has Y.words f) (made_has 4 _ (joined (has X.words) (has Y.words)) refl f h)) [ inl a ↦ x f a | inr b ↦ y f b ];
}

module _ (n : ℕ) (rule : Set → Set) where
  -- what may be given of X: only numbers below n, and only what is in every closed set that holds X; where nothing of it is new, X is closed
  pub record Grows (X Y : Facts) : Type 0 where
    pub below_n : (f : ℕ) → Is (has Y.words f) → f < n
    pub inside : (Z : Set) → Sub n (rule Z) Z → Sub n (has X.words) Z → Sub n (has Y.words) Z
    pub closed : Sub n (has Y.words) (has X.words) → Sub n (rule (has X.words)) (has X.words)

  module _ (few : n ≤ 256) (rising : Rising n rule) (gives : Facts → Facts → Type 0) where
    -- the set grows within every closed set that holds the seeds
    record Between (seeds X : Facts) : Type 0 where
      facts : FactsBelow n X
      holds : Sub n (has seeds.words) (has X.words)
      inside : (Z : Set) → Sub n (rule Z) Z → Sub n (has seeds.words) Z → Sub n (has X.words) Z

    -- the end is the least set that holds the seeds and is closed, in whatever order the rule adds
    pub closes_least : ((X Y : Facts) → FactsBelow n X → gives X Y → Grows X Y) → {passes : ℕ} (seeds : Facts) {Z : Facts} → FactsBelow n seeds
        → Closes gives passes seeds Z → Z.words ≡ words_of 4 (least n rule (has seeds.words)).set
    unfolding joined
    closes_least grows seeds {Z} facts closes =
        end.facts.whole ∙ words_of_same 4 (has Z.words) _ (λ f l. equal_tests _ _ (into f) (from f))
      where
        keep : (X Y : Facts) → Between seeds X → gives X Y → Between seeds (together X Y)
        keep X Y b g =
            let more = grows X Y b.facts g in
            record {
              facts = together_below X Y b.facts.below_n more.below_n;
              holds = λ f l h. has_made 4 _ (joined (has X.words) (has Y.words)) refl f (omega arith) ∙ either_l _ (has Y.words f) (b.holds f l h);
              inside = λ C closed w f l h. elim (either_cases _ _ (made_has 4 _ (joined (has X.words) (has Y.words)) refl f h)) [
                | inl x ↦ b.inside C closed w f l x
                | inr y ↦ more.inside C closed (b.inside C closed w) f l y
              ];
            }

        end : Between seeds Z
        end = closes_keeps gives (Between seeds) keep (record { facts = facts; holds = λ f l h. h; inside = λ C closed w. w }) closes

        closed : Sub n (rule (has Z.words)) (has Z.words)
        closed =
            let e = closes_ends gives closes in
            (grows Z e.given end.facts e.gave).closed (λ f l h. within_at 256 _ _ e.nothing_new f (omega arith) h)

        inside_least : Sub n (has Z.words) (least n rule (has seeds.words)).set
        inside_least = end.inside _ (least_closed n rule (has seeds.words)) (least_holds n rule (has seeds.words))

        into : (f : ℕ) → Is (has Z.words f) → Is ((least n rule (has seeds.words)).set f)
        into f h = inside_least f (end.facts.below_n f h) h

        from : (f : ℕ) → Is ((least n rule (has seeds.words)).set f) → Is (has Z.words f)
        from f h =
            least_only n rule (has seeds.words) rising (has Z.words) end.holds closed inside_least f (least_lt n rule (has seeds.words) f h) ∙ h

-- ---- passes that give just what a rule makes

module _ (n : ℕ) (rule : Set → Set) where
  -- pass i begins with X: what is still to come from X on ends where all passes end, and after as many passes
  module _ (seeds : Set) where
    pub record Running (X : Set) (i : ℕ) : Type 0 where
      pub left : ℕ
      pub same_end : (least n rule seeds).set ≡ (repeated n rule left (quiet n rule X) X).set
      pub counted : suc (least n rule seeds).passes ≡ i + (repeated n rule left (quiet n rule X) X).passes
      pub enough : n < left + count n X

    pub run_start : Running (held n seeds) 1
    unfolding least
    run_start = record { left = suc n; same_end = refl; counted = omega arith; enough = omega arith }

    pub run_next : (X : Set) (i : ℕ) → Running X i → quiet n rule X ≡ false → Running (pass n rule X) (suc i)
    unfolding repeated
    run_next X i r e =
        go r.left r.enough (subst (λ b. (least n rule seeds).set ≡ (repeated n rule r.left b X).set) e r.same_end)
        (subst (λ b. suc (least n rule seeds).passes ≡ i + (repeated n rule r.left b X).passes) e r.counted)
      where
        go : (k : ℕ) → n < k + count n X → (least n rule seeds).set ≡ (repeated n rule k false X).set
            → suc (least n rule seeds).passes ≡ i + (repeated n rule k false X).passes → Running (pass n rule X) (suc i)
        go zero m p q = absurd (omega (arith, count_most n X))
        go (suc k) m p q = record { left = k; same_end = p; counted = omega arith; enough = omega (arith, pass_more n rule X e) }

    pub run_stop : (X : Set) (i : ℕ) → Running X i → Is (quiet n rule X) → ((least n rule seeds).set ≡ X) × ((least n rule seeds).passes ≡ i)
    unfolding repeated
    run_stop X i r e =
        go r.left (subst (λ b. (least n rule seeds).set ≡ (repeated n rule r.left b X).set) e r.same_end)
        (subst (λ b. suc (least n rule seeds).passes ≡ i + (repeated n rule r.left b X).passes) e r.counted)
      where
        go : (k : ℕ) → (least n rule seeds).set ≡ (repeated n rule k true X).set
            → suc (least n rule seeds).passes ≡ i + (repeated n rule k true X).passes → ((least n rule seeds).set ≡ X) × ((least n rule seeds).passes ≡ i)
        go zero p q = (p, omega arith)
        go (suc k) p q = (p, omega arith)

    -- so many passes can be counted
    pub run_most : (X : Set) (i : ℕ) → Running X i → i ≤ suc (suc n)
    run_most X i r = omega (arith, r.counted, least_passes n rule seeds)

  -- what is given of X, with X: just what the rule makes of it
  pub record Gives (X Y : Facts) : Type 0 where
    pub below_n : (f : ℕ) → Is (has Y.words f) → f < n
    pub made : (f : ℕ) → f < n → joined (has X.words) (has Y.words) f ≡ joined (has X.words) (rule (has X.words)) f

  -- pass i begins with X, which holds only numbers below n
  pub record Growing (seeds X : Facts) (i : ℕ) : Type 0 where
    pub facts : FactsBelow n X
    pub running : Running (has seeds.words) (held n (has X.words)) i
    pub few_passes : i ≤ 258

  module _ (few : n ≤ 256) (rising : Rising n rule) where
    -- Z is what one pass made of Y, both seen below n only: the rule looks at what lies below n
    rule_held : (Y : Set) (f : ℕ) → f < n → rule (held n Y) f ≡ rule Y f
    rule_held Y f l =
        equal_tests (rule (held n Y) f) (rule Y f) (rising (held n Y) Y (λ g k h. held_out n Y g h) f l) (rising Y (held n Y) (held_in n Y) f l)

    pass_made : (Y Z : Set) → ((f : ℕ) → f < n → Z f ≡ joined Y (rule Y) f) → held n Z ≡ pass n rule (held n Y)
    unfolding pass joined
    pass_made Y Z pass_of =
        held_same n Z (joined (held n Y) (rule (held n Y))) (λ f l. pass_of f l ∙ sym (ap₂ either (held_is n Y f l) (rule_held Y f l)))

    module _ (X Y : Facts) (g : Gives X Y) where
      -- nothing of it is new exactly if the rule makes nothing new
      quiet_given : within 256 (has Y.words) (has X.words) ≡ quiet n rule (held n (has X.words))
      unfolding quiet joined
      quiet_given = within_past n 256 (has Y.words) (has X.words) few g.below_n ∙ equal_tests _ _ quiet_then given_then
        where
          quiet_then : Is (within n (has Y.words) (has X.words)) → Is (within n (rule (held n (has X.words))) (held n (has X.words)))
          quiet_then h =
              within_true n _ _ (λ f l r.
              held_in n (has X.words) f l (elim (either_cases (has X.words f) (has Y.words f) (g.made f l ∙ either_r (has X.words f) _ (sym (rule_held (has X.words) f l) ∙ r))) [
                | inl x ↦ x
                | inr y ↦ within_at n (has Y.words) (has X.words) h f l y
              ]))

          given_then : Is (within n (rule (held n (has X.words))) (held n (has X.words))) → Is (within n (has Y.words) (has X.words))
          given_then h =
              within_true n _ _ (λ f l y.
              elim (either_cases (has X.words f) (rule (has X.words) f) (sym (g.made f l) ∙ either_r (has X.words f) _ y)) [
                | inl x ↦ x
                | inr r ↦ held_out n (has X.words) f (within_at n _ _ h f l (rule_held (has X.words) f l ∙ r))
              ])

      -- with it the set is what one pass makes
      pass_given : pass n rule (held n (has X.words)) ≡ held n (has (together X Y).words)
      pass_given =
          sym (pass_made (has X.words) (has (together X Y).words) (λ f l. has_made 4 _ (joined (has X.words) (has Y.words)) refl f (omega arith) ∙ g.made f l))

    module _ (seeds : Facts) where
      growing_start : FactsBelow n seeds → Growing seeds seeds 1
      growing_start facts = record { facts = facts; running = run_start (has seeds.words); few_passes = omega arith }

      module _ (X Y : Facts) (i : ℕ) (g : Gives X Y) (growing : Growing seeds X i) where
        -- one pass more
        pub growing_next : within 256 (has Y.words) (has X.words) ≡ false → Growing seeds (together X Y) (suc i)
        growing_next new =
            let run = run_next (has seeds.words) (held n (has X.words)) i growing.running (sym (quiet_given X Y g) ∙ new) in
            record {
              facts = together_below X Y growing.facts.below_n g.below_n;
              running = rw (pass_given X Y g) at run;
              few_passes = omega (arith, run_most (has seeds.words) _ (suc i) run);
            }

        -- or no more: X is the closure, and the passes are counted
        growing_stop : Is (within 256 (has Y.words) (has X.words)) → (X.words ≡ words_of 4 (least n rule (has seeds.words)).set) × (i ≡ (least n rule (has seeds.words)).passes)
        growing_stop w =
            let stop = run_stop (has seeds.words) (held n (has X.words)) i growing.running (sym (quiet_given X Y g) ∙ w) in
            (growing.facts.whole ∙ words_of_same 4 (has X.words) _ (λ f l. all_held f ∙ ap (λ (Z : Set). Z f) (sym stop.0)), sym stop.1)
          where
            all_held : (f : ℕ) → has X.words f ≡ held n (has X.words) f
            all_held f =
                equal_tests (has X.words f) (held n (has X.words) f) (λ h. held_in n (has X.words) f (growing.facts.below_n f h) h) (held_out n (has X.words) f)

      module _ (gives : Facts → Facts → Type 0) (gives_made : (X Y : Facts) → FactsBelow n X → gives X Y → Gives X Y) where
        closes_growing : {passes : ℕ} {X Z : Facts} → Closes gives passes X Z → (i : ℕ) → Growing seeds X i
            → (Z.words ≡ words_of 4 (least n rule (has seeds.words)).set) × (i + passes ≡ suc (least n rule (has seeds.words)).passes)
        closes_growing (last {X = X} {Y = Y} g w) i growing =
            let stop = growing_stop X Y i (gives_made X Y growing.facts g) growing w in (stop.0, omega (arith, stop.1))
        closes_growing (adding {X = X} {Y = Y} g w rest) i growing =
            let all = closes_growing rest (suc i) (growing_next X Y i (gives_made X Y growing.facts g) growing w) in (all.0, omega (arith, all.1))

        -- the end is the closure, and the passes are those of the definition
        pub closes_rule : {passes : ℕ} {Z : Facts} → FactsBelow n seeds → Closes gives passes seeds Z
            → (Z.words ≡ words_of 4 (least n rule (has seeds.words)).set) × (passes ≡ (least n rule (has seeds.words)).passes)
        closes_rule facts closes = let all = closes_growing closes 1 (growing_start facts) in (all.0, omega (arith, all.1))
