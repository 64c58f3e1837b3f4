-- The zone and the region are grown step by step, and the order of the steps makes no difference: a set that holds the seeds, lies inside every closed set
-- that holds them, and is closed itself is the least one.
use Prim.Native.Nat.{ℕ, suc, ◌+◌, ◌≤◌, ◌<◌}
use mathlib.Core.Path.{◌≡◌, refl, sym, ap, ap₂, ◌∙◌, fun_ext}
use mathlib.Core.Bool.{Bool, true, false, not}
use mathlib.Core.List.{List}
use mathlib.Core.Logic.{◌⊎◌, inl, inr}
use native.Mathlib.Omega.{arith}
use mir.Syntax.{w64}
use mir.Val.{Fits}
use lib.Dec.{eqb}
use lib.ListN.{length, get_or}
use Rattle.sets.specs.Tests.{Is, no, both, either, below, same}
use Rattle.sets.specs.Sets.{Set, none, up_to, added, joined, met, removed, any, count}
use Rattle.sets.specs.Words.{has, words_of}
use Rattle.sets.proofs.Tests.{not_is, tell, fails, not_both_ways, equal_tests, both_l, both_r, both_true, both_comm, both_false_l, both_false_r, either_l, either_r, either_cases, no_true, no_false, below_true, below_at, below_false, same_at, same_false, same_not, same_iff, compare}
use Rattle.sets.proofs.Sets.{any_true, any_at, count_lt, count_same, count_none}
use Rattle.sets.proofs.Words.{has_made, made_has, words_only, words_of_same}
use Rattle.task.specs.Task.{Task}
use Rattle.task.specs.Tables.{Tables, view}
use Rattle.task.specs.Checked.{Checked}
use Rattle.reach.specs.Closing.{Facts, Closes}
use Rattle.reach.specs.Least.{quiet, repeated, least}
use Rattle.reach.proofs.Least.{Rising, held_same}
use Rattle.reach.proofs.ClosedSets.{FactsBelow, facts_below, Grows, closes_least}
use Rattle.distance.specs.Distance.{entry}
use Rattle.cuts.specs.Workers.{sets_into, tail_in, zone_from, region_from, cut_from, free_into, leads_from, zone_by, region_by, Inside, RisingBy, RuledBy, Passed, GrownTo, grown_by}

-- ---- does a step set a fact of a set

-- some number below n is a member exactly if there are members to count
any_counted : (n : ℕ) (X : Set) → any n X ≡ no (same (count n X) 0)
unfolding none
any_counted n X =
    equal_tests (any n X) (no (same (count n X) 0))
    (λ h. let r = any_at n X h in
    no_true _ (same_false (count n X) 0 (λ e. omega (arith, count_lt n none X (λ f l x. not_is x) r.0 r.1 refl r.2))))
    (λ h. elim (tell (any n X)) [
      | inl x ↦ x
      | inr x ↦ absurd (same_not _ _ (no_false _ h) (count_none n X (λ f l. fails (X f) (λ y. not_both_ways (any_true n X f l y) x))))
    ])

not_no : (p : Bool) → not p ≡ no p
unfolding no
not_no true = refl
not_no false = refl

pub sets_told : (t : Task) (X : Set) (s : ℕ) {own shared : List ℕ} {size : ℕ} → own ≡ words_of 4 (t.sets s)
    → shared ≡ words_of 4 (met (has own) X) → size ≡ count 256 (has shared) → not (eqb size 0) ≡ sets_into t X s
unfolding sets_into met same
sets_told t X s {own} {shared} {size} e d counts =
    not_no _ ∙ ap (λ (k : ℕ). no (eqb k 0)) (counts ∙ count_same 256 (has shared) _ members)
    ∙ sym (any_counted 256 (λ f. both (t.sets s f) (X f)))
  where
    members : (f : ℕ) → f < 256 → has shared f ≡ both (t.sets s f) (X f)
    members f l = has_made 4 shared _ d f l ∙ ap (λ (p : Bool). both p (X f)) (has_made 4 own _ e f l)

-- ---- what one step adds to the zone, and to the region

-- a step that fails its test adds nothing
adds_nothing : (n : ℕ) (p : Bool) (P : Set) {words : List ℕ} → length words ≡ 4 → ((i : ℕ) → Fits w64 (get_or words i 0)) → p ≡ false
    → words ≡ words_of 4 (joined (has words) (met (up_to n) (λ f. both p (P f))))
unfolding joined met
adds_nothing n p P {words} size fits h =
    words_only 4 words _ size (λ i. (fits i).fits)
    (λ f l. equal_tests (has words f) _ (either_l (has words f) _)
    (λ h'. elim (either_cases (has words f) _ h') [ inl x ↦ x | inr y ↦ not_both_ways y (both_false_r (up_to n f) _ (both_false_l p (P f) h)) ]))

-- one that passes it adds what it should, which lies below n
adds_what : (n : ℕ) (p : Bool) (P Y : Set) (words : List ℕ) {after : List ℕ} → after ≡ words_of 4 (joined (has words) Y) → Is p → ((f : ℕ) → f < 256 → Y f ≡ P f)
    → ((f : ℕ) → Is (P f) → f < n) → after ≡ words_of 4 (joined (has words) (met (up_to n) (λ f. both p (P f))))
unfolding joined met up_to
adds_what n p P Y words e h same_members below_n =
    e ∙ words_of_same 4 _ _ (λ f l. ap (either (has words f)) (same_members f l ∙ equal_tests (P f) _
    (λ x. both_true (below f n) _ (below_true f n (below_n f x)) (both_true p (P f) h x)) (λ x. both_r p (P f) (both_r (below f n) _ x))))

module _ (t : Task) (costs : List ℕ) (counted : Set) (chosen : List ℕ) (s : ℕ) (zone : List ℕ) where
  -- the chosen need is "begin"
  pub tail_begin : length zone ≡ 4 → ((i : ℕ) → Fits w64 (get_or zone i 0)) → {tail : ℕ} → tail ≡ entry chosen s → t.facts ≤ tail
      → zone ≡ words_of 4 (joined (has zone) (met (up_to t.facts) (zone_by t costs counted chosen (has zone) s)))
  unfolding joined met zone_by up_to
  tail_begin size fits read l =
      words_only 4 zone _ size (λ i. (fits i).fits)
      (λ f b. equal_tests (has zone f) _ (either_l (has zone f) _)
      (λ h. elim (either_cases (has zone f) _ h) [
        | inl x ↦ x
        | inr x ↦
            let one = same_at f (entry chosen s) (both_r (free_into t costs counted (has zone) s) _ (both_r (below f t.facts) _ x)) in
            absurd (omega (arith, below_at f t.facts (both_l _ _ x)))
      ]))

  module _ {r : Bool} (told : r ≡ free_into t costs counted (has zone) s) where
    pub tail_none : length zone ≡ 4 → ((i : ℕ) → Fits w64 (get_or zone i 0)) → r ≡ false
        → zone ≡ words_of 4 (joined (has zone) (met (up_to t.facts) (zone_by t costs counted chosen (has zone) s)))
    unfolding zone_by
    tail_none size fits h = adds_nothing t.facts (free_into t costs counted (has zone) s) (λ u. same u (entry chosen s)) size fits (sym told ∙ h)

    pub tail_one : r ≡ true → {tail : ℕ} → tail ≡ entry chosen s → tail < t.facts → {made : List ℕ} → made ≡ words_of 4 (added (has zone) tail)
        → made ≡ words_of 4 (joined (has zone) (met (up_to t.facts) (zone_by t costs counted chosen (has zone) s)))
    unfolding zone_by added joined
    tail_one h read l made =
        adds_what t.facts _ (λ u. same u (entry chosen s)) (λ u. same u (entry chosen s)) zone (rw read at made) (sym told ∙ h) (λ f b. refl)
        (λ f x. omega (arith, same_at f (entry chosen s) x))

module _ (t : Task) (counted : Set) (chosen : List ℕ) (zone : Set) (s : ℕ) (region : List ℕ) {r : Bool} (told : r ≡ leads_from t counted chosen (has region) s) where
  pub heads_none : length region ≡ 4 → ((i : ℕ) → Fits w64 (get_or region i 0)) → r ≡ false
      → region ≡ words_of 4 (joined (has region) (met (up_to t.facts) (region_by t counted chosen zone (has region) s)))
  unfolding region_by
  heads_none size fits h = adds_nothing t.facts (leads_from t counted chosen (has region) s) (removed (t.sets s) zone) size fits (sym told ∙ h)

  pub heads_some : ((f : ℕ) → Is (t.sets s f) → f < t.facts) → r ≡ true → {own outside made : List ℕ} → own ≡ words_of 4 (t.sets s)
      → outside ≡ words_of 4 (removed (has own) zone) → made ≡ words_of 4 (joined (has region) (has outside))
      → made ≡ words_of 4 (joined (has region) (met (up_to t.facts) (region_by t counted chosen zone (has region) s)))
  unfolding region_by removed
  heads_some sets_below h {own} {outside} read out made =
      adds_what t.facts _ (removed (t.sets s) zone) (has outside) region made (sym told ∙ h)
      (λ f b. has_made 4 outside _ out f b ∙ ap (both (no (zone f))) (has_made 4 own _ read f b)) (λ f x. sets_below f (both_r (no (zone f)) _ x))

-- ---- what a step adds to a set it adds to every larger one

both_more : (p q r : Bool) → (Is p → Is q) → Is (both p r) → Is (both q r)
both_more p q r more h = both_true q r (more (both_l p r h)) (both_r p r h)

both_more_r : (p q r : Bool) → (Is q → Is r) → Is (both p q) → Is (both p r)
both_more_r p q r more h = both_true p r (both_l p q h) (more (both_r p q h))

pub zone_rising : (t : Task) → ((s f : ℕ) → Is (t.sets s f) → f < t.facts) → (costs : List ℕ) (counted : Set) (chosen : List ℕ) → RisingBy t.facts (zone_by t costs counted chosen)
unfolding zone_by free_into sets_into
zone_rising t sets_below costs counted chosen X Y inside s u =
    both_more _ _ (same u (entry chosen s)) (both_more_r (counted s) _ _ (both_more_r (same (entry costs s) 0) _ _ (λ h.
    let fact = any_at 256 _ h in
    let set = both_l (t.sets s fact.0) _ fact.2 in
    any_true 256 _ fact.0 fact.1 (both_more_r _ (X fact.0) (Y fact.0) (inside fact.0 (sets_below s fact.0 set)) fact.2))))

pub region_rising : (t : Task) (counted : Set) (chosen : List ℕ) (zone : Set) → RisingBy t.facts (region_by t counted chosen zone)
unfolding region_by leads_from tail_in
region_rising t counted chosen zone X Y inside s f =
    both_more _ _ (removed (t.sets s) zone f) (both_more_r (counted s) _ _ (λ h.
    elim (compare (entry chosen s) t.facts) [
      | inl l ↦
          elim (either_cases (no (below (entry chosen s) t.facts)) _ h) [
            | inl begin ↦ either_l _ _ begin
            | inr x ↦ either_r (no (below (entry chosen s) t.facts)) _ (inside (entry chosen s) l x)
          ]
      | inr l ↦ either_l _ _ (no_true _ (below_false (entry chosen s) t.facts l))
    ]))

-- ---- a pass, step by step

module _ (n : ℕ) (by : Set → ℕ → Set) where
  pub pass_start : (words : List ℕ) → ((f : ℕ) → Is (has words f) → f < n) → Passed n 0 by (has words) words
  pass_start words facts_only = record {
    below_n = facts_only;
    holds = λ f l h. h;
    inside = λ Z closed w. w;
    quiet = λ w s l. absurd (omega arith);
  }

  pub pass_next : n ≤ 256 → RisingBy n by → (s : ℕ) (X : Set) {next after : List ℕ} → Passed n s by X next
      → after ≡ words_of 4 (joined (has next) (met (up_to n) (by (has next) s))) → Passed n (s + 1) by X after
  unfolding joined met up_to
  pass_next few rising s X {next} {after} p a = record {
    below_n = λ f h. elim (parts f h) [ inl x ↦ p.below_n f x | inr y ↦ below_at f n (both_l (below f n) _ y) ];
    holds = λ f l h. keeps f l (p.holds f l h);
    inside =
        λ Z closed w f l h.
        let old = p.inside Z (λ t b. closed t (omega arith)) w in
        elim (parts f h) [
          | inl x ↦ old f l x
          | inr y ↦ closed s (omega arith) f l (rising (has next) Z old s f (both_r (below f n) _ y))
        ];
    quiet =
        λ w t b f l h.
        elim (compare t s) [
          | inl c ↦ p.quiet (λ g k x. w g k (keeps g k x)) t c f l h
          | inr c ↦
              let q : t ≡ s = omega arith in
              w f l (adds f l (rising X (has next) p.holds s f (rw q at h)))
        ];
  }
    where
      parts : (f : ℕ) → Is (has after f) → Is (has next f) ⊎ Is (both (below f n) (by (has next) s f))
      parts f h = either_cases _ _ (made_has 4 after _ a f h)

      keeps : Inside n (has next) (has after)
      keeps f l h = has_made 4 after _ a f (omega arith) ∙ either_l _ _ h

      adds : Inside n (by (has next) s) (has after)
      adds f l h = has_made 4 after _ a f (omega arith) ∙ either_r (has next f) _ (both_true (below f n) _ (below_true f n l) h)

-- ---- passes until one adds nothing

-- what passes end in is the least closed set
pub grown_set : (n m : ℕ) (by : Set → ℕ → Set) → n ≤ 256 → RisingBy n by → (gives : Facts → Facts → Type 0) → ((X Y : Facts) → gives X Y → GrownTo n m by X Y)
    → (seeds : Facts) → length seeds.words ≡ 4 → ((i : ℕ) → Fits w64 (get_or seeds.words i 0)) → {passes : ℕ} {Z : Facts} → Closes gives passes seeds Z
    → ((f : ℕ) → Is (has seeds.words f) → f < n) → Z.words ≡ words_of 4 (grown_by n m by (has seeds.words))
unfolding grown_by
grown_set n m by few rising_by gives grown seeds size fits closes facts_only =
    closes_least n rule few rising gives grows seeds (facts_below n seeds size fits facts_only) closes
  where
    rule : Set → Set
    rule X f = any m (λ s. by X s f)

    rising : Rising n rule
    rising X Y w f l h = let s = any_at m _ h in any_true m _ s.0 s.1 (rising_by X Y w s.0 f s.2)

    grows : (X Y : Facts) → FactsBelow n X → gives X Y → Grows n rule X Y
    grows X Y b g =
        let p = grown X Y g b.below_n in
        record {
          below_n = p.below_n;
          inside = λ Z closed w. p.inside Z (λ s l f k h. closed f k (any_true m _ s l h)) w;
          closed = λ w f l h. let s = any_at m _ h in p.quiet w s.0 s.1 f l s.2;
        }

-- ---- the zone, the region and the cut of a graph

-- the seeds matter below n only, and so does what is added
grown_from : (n m : ℕ) (by : Set → ℕ → Set) (rule : Set → Set) (X Y : Set) → ((f : ℕ) → f < n → X f ≡ Y f)
    → ((Z : Set) (f : ℕ) → any m (λ s. by Z s f) ≡ rule Z f) → grown_by n m by X ≡ (least n rule Y).set
unfolding grown_by least
grown_from n m by rule X Y same_seeds same_rule =
    ap (λ (R : Set → Set). (least n R X).set) (fun_ext (λ Z. fun_ext (same_rule Z)))
    ∙ ap (λ (H : Set). (repeated n rule (suc n) (quiet n rule H) H).set) (held_same n X Y same_seeds)

regroup : (a b c d : Bool) → both a (both b (both c d)) ≡ both (both a (both b d)) c
unfolding both
regroup true true c d = both_comm c d
regroup true false c d = refl
regroup false b c d = refl

crossing : (a b c d : Bool) → both a (both (both b c) d) ≡ both (both a b) (both d c)
unfolding both
crossing true true c d = both_comm c d
crossing true false c d = refl
crossing false b c d = refl

module _ (t : Tables) (valid : Checked t) (counted : Set) (chosen : List ℕ) (each : length chosen ≡ t.steps) where
  abbrev T : Task
  T = view t

  module _ (costs : List ℕ) where
    -- a step makes of the zone what the rule of the zone says
    pub zone_ruled : (makes : ℕ → Facts → Facts → Type 0)
        → ((s : ℕ) (X Y : Facts) → s < length chosen → makes s X Y
        → Y.words ≡ words_of 4 (joined (has X.words) (met (up_to t.facts) (zone_by T costs counted chosen (has X.words) s))))
        → RuledBy t.facts (length chosen) (zone_by T costs counted chosen) makes
    zone_ruled makes grown_is = record { few = valid.few_facts; rising = zone_rising T valid.sets_facts costs counted chosen; grown = grown_is }

    -- the zone grows from the goal's choice
    pub zone_grown : (goal : ℕ) → goal < t.facts → {empty last zone : List ℕ} → empty ≡ words_of 4 none → last ≡ words_of 4 (added (has empty) goal)
        → (((f : ℕ) → Is (has last f) → f < t.facts) → zone ≡ words_of 4 (grown_by t.facts (length chosen) (zone_by T costs counted chosen) (has last)))
        → zone ≡ words_of 4 (zone_from T costs counted chosen goal)
    unfolding zone_from zone_by free_into added none either
    zone_grown goal l {empty} {last} nothing made grown =
        grown last_below
        ∙ ap (words_of 4)
        (grown_from t.facts (length chosen) (zone_by T costs counted chosen) _ (has last) (λ u. same u goal) (λ f b. last_is f (omega (arith, valid.few_facts)))
        (λ X u. ap₂ any each (fun_ext (λ s.
        sym (ap (λ (p : Bool). both (counted s) (both (same (entry costs s) 0) (both p (sets_into T X s)))) (same_iff _ _ _ _ sym sym) ∙ regroup _ _ _ _)))))
      where
        last_is : (f : ℕ) → f < 256 → has last f ≡ same f goal
        last_is f b = has_made 4 last _ made f b ∙ ap (λ (p : Bool). either p (same f goal)) (has_made 4 empty _ nothing f b)

        last_below : (f : ℕ) → Is (has last f) → f < t.facts
        last_below f h =
            elim (either_cases (has empty f) _ (made_has 4 last _ made f h)) [
              | inl x ↦ not_is (made_has 4 empty _ nothing f x)
              | inr x ↦ omega (arith, same_at f goal x)
            ]

  module _ (zone : Set) where
    -- and of the region what the rule of the region says
    pub region_ruled : (makes : ℕ → Facts → Facts → Type 0)
        → ((s : ℕ) (X Y : Facts) → s < length chosen → makes s X Y
        → Y.words ≡ words_of 4 (joined (has X.words) (met (up_to t.facts) (region_by T counted chosen zone (has X.words) s))))
        → RuledBy t.facts (length chosen) (region_by T counted chosen zone) makes
    region_ruled makes grown_is = record { few = valid.few_facts; rising = region_rising T counted chosen zone; grown = grown_is }

    -- the region grows from the start
    pub region_grown : (start : List ℕ) {region : List ℕ} → has start ≡ has t.start
        → (((f : ℕ) → Is (has start f) → f < t.facts) → region ≡ words_of 4 (grown_by t.facts (length chosen) (region_by T counted chosen zone) (has start)))
        → region ≡ words_of 4 (region_from T counted chosen zone)
    unfolding region_from region_by leads_from removed
    region_grown start first grown =
        grown (rw first valid.start_facts)
        ∙ ap (words_of 4)
        (grown_from t.facts (length chosen) (region_by T counted chosen zone) _ (has start) (has t.start) (λ f l. ap (λ (X : Set). X f) first)
        (λ X f. ap (λ (m : ℕ). any m (λ s. both (leads_from T counted chosen X s) (removed (T.sets s) zone f))) each ∙ equal_tests _ _ (led X f) (leads X f)))
      where
        led : (X : Set) (f : ℕ) → Is (any t.steps (λ s. both (both (counted s) (tail_in T chosen X s)) (both (no (zone f)) (T.sets s f))))
            → Is (both (no (zone f)) (any t.steps (λ s. both (counted s) (both (tail_in T chosen X s) (T.sets s f)))))
        led X f h =
            let s = any_at t.steps _ h in
            let from = both_l (both (counted s.0) (tail_in T chosen X s.0)) _ s.2 in
            let out = both_r (both (counted s.0) (tail_in T chosen X s.0)) _ s.2 in
            both_true (no (zone f)) _ (both_l (no (zone f)) _ out)
            (any_true t.steps _ s.0 s.1 (both_more_r (counted s.0) _ _ (λ tail. both_true _ _ tail (both_r (no (zone f)) _ out)) from))

        leads : (X : Set) (f : ℕ) → Is (both (no (zone f)) (any t.steps (λ s. both (counted s) (both (tail_in T chosen X s) (T.sets s f)))))
            → Is (any t.steps (λ s. both (both (counted s) (tail_in T chosen X s)) (both (no (zone f)) (T.sets s f))))
        leads X f h =
            let s = any_at t.steps _ (both_r (no (zone f)) _ h) in
            let from = both_r (counted s.0) _ s.2 in
            any_true t.steps _ s.0 s.1
            (both_true _ _ (both_more_r _ _ _ (both_l _ (T.sets s.0 f)) s.2)
            (both_true (no (zone f)) _ (both_l (no (zone f)) _ h) (both_r _ (T.sets s.0 f) from)))

  -- the cut is the steps that lead from the region and set a fact of the zone
  pub cut_is : (zone region : Set)
      → met (up_to (length chosen)) (λ s. both (leads_from T counted chosen region s) (sets_into T zone s)) ≡ cut_from T counted chosen zone region
  unfolding met up_to cut_from leads_from
  cut_is zone region = rw each (fun_ext (λ s. crossing _ _ _ _))
