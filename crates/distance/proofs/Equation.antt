-- Why the distances solve the equation: each round is at most the one before, and by round n it is settled for every fact, because each round settles the
-- cheapest of those facts that were not.
use Prim.Native.Nat.{ℕ, zero, suc, ◌+◌, ◌≤◌, ◌<◌}
use mathlib.Core.Path.{◌≡◌, refl, sym, ◌∙◌, subst}
use mathlib.Core.Bool.{false}
use mathlib.Core.Logic.{◌⊎◌, inl, inr}
use mathlib.Core.List.{List}
use native.Mathlib.Decide.{le_ind, ℕ_discrete}
use native.Mathlib.Nat.{le_antisymm}
use native.Mathlib.Omega.{arith}
use lib.ListN.{length}
use Rattle.sets.specs.Tests.{Is, both, pick}
use Rattle.sets.specs.Sets.{Set, none, added, count, within}
use Rattle.sets.proofs.Tests.{tell, not_both_ways, both_l, both_r, both_true, pick_true, pick_false}
use Rattle.sets.proofs.Sets.{added_itself, added_other, count_lt, count_full, within_at, within_not}
use Rattle.task.specs.Task.{Task}
use Rattle.distance.specs.Distance.{least, entry, through_step, right_side, rounds, distances, distance}
use Rattle.distance.specs.Relaxing.{Under, Still}
use Rattle.distance.proofs.Extremes.{largest_ge, largest_le, largest_mono, least_mark, least_le, least_ge, least_at, lowest_outside, all_counted}
use Rattle.distance.proofs.Lists.{length_list, entry_list, list_only}

-- ---- the right side of the equation

-- a step that needs more, or costs more, over a table that is nowhere nearer leads nowhere nearer
through_mono : (t u : Task) (c e d z : ℕ → ℕ) (s : ℕ) → c s ≤ e s
    → ((f : ℕ) → f < t.facts → Is (t.needs s f) → (f < u.facts) × Is (u.needs s f) × (d f ≤ z f)) → through_step t c d s ≤ through_step u e z s
unfolding through_step
through_mono t u c e d z s l h = omega (arith, largest_mono t.facts u.facts (t.needs s) (u.needs s) d z h)

module _ (t : Task) (c : ℕ → ℕ) where
  pub through_up : (d z : ℕ → ℕ) → Under t.facts d z → (s : ℕ) → through_step t c d s ≤ through_step t c z s
  through_up d z h s = through_mono t t c c d z s (omega arith) (λ f l x. (l, x, h f l))

  pub through_need : (d : ℕ → ℕ) (s f : ℕ) → f < t.facts → Is (t.needs s f) → d f ≤ through_step t c d s
  unfolding through_step
  through_need d s f l h = omega (arith, largest_ge (t.needs s) d t.facts f l h)

  pub through_le : (d : ℕ → ℕ) (s x : ℕ) → ((f : ℕ) → f < t.facts → Is (t.needs s f) → d f ≤ x) → through_step t c d s ≤ c s + x
  unfolding through_step
  through_le d s x h = omega (arith, largest_le (t.needs s) d t.facts x h)

module _ (t : Task) (c : ℕ → ℕ) (mark : ℕ) where
  pub right_start : (d : ℕ → ℕ) (f : ℕ) → Is (t.start f) → right_side t c mark d f ≡ 0
  unfolding right_side
  right_start d f h = pick_true 0 _ h

  pub right_mark : (d : ℕ → ℕ) (f : ℕ) → right_side t c mark d f ≤ mark
  unfolding right_side
  right_mark d f =
      elim (tell (t.start f)) [
        | inl h ↦ omega (arith, right_start d f h)
        | inr h ↦ rw (pick_false 0 (least mark t.steps (λ s. both (t.on s) (t.sets s f)) (through_step t c d)) h) (least_mark mark _ _ t.steps)
      ]

  pub right_step : (d : ℕ → ℕ) (s f : ℕ) → s < t.steps → Is (t.on s) → Is (t.sets s f) → right_side t c mark d f ≤ through_step t c d s
  unfolding right_side
  right_step d s f l on set =
      elim (tell (t.start f)) [
        | inl h ↦ omega (arith, right_start d f h)
        | inr h ↦
            rw (pick_false 0 (least mark t.steps (λ s. both (t.on s) (t.sets s f)) (through_step t c d)) h)
            (least_le mark (λ s. both (t.on s) (t.sets s f)) (through_step t c d) t.steps s l (both_true (t.on s) (t.sets s f) on set))
      ]

  pub right_ge : (d : ℕ → ℕ) (f x : ℕ) → x ≤ mark → (Is (t.start f) → x ≡ 0)
      → ((s : ℕ) → s < t.steps → Is (t.on s) → Is (t.sets s f) → x ≤ through_step t c d s) → x ≤ right_side t c mark d f
  unfolding right_side
  right_ge d f x top first step =
      elim (tell (t.start f)) [
        | inl h ↦ omega (arith, first h)
        | inr h ↦
            rw (pick_false 0 (least mark t.steps (λ s. both (t.on s) (t.sets s f)) (through_step t c d)) h)
            (least_ge mark _ _ t.steps x top (λ s l y. step s l (both_l (t.on s) (t.sets s f) y) (both_r (t.on s) (t.sets s f) y)))
      ]

  -- below the mark it is 0 for a start fact, or what some step leads to
  pub right_at : (d : ℕ → ℕ) (f : ℕ) → right_side t c mark d f < mark
      → Is (t.start f) ⊎ ((s : ℕ) × (s < t.steps) × Is (t.on s) × Is (t.sets s f) × (right_side t c mark d f ≡ through_step t c d s))
  unfolding right_side
  right_at d f h =
      elim (tell (t.start f)) [
        | inl a ↦ inl a
        | inr a ↦
            let e = pick_false 0 (least mark t.steps (λ s. both (t.on s) (t.sets s f)) (through_step t c d)) a in
            let r = least_at mark (λ s. both (t.on s) (t.sets s f)) (through_step t c d) t.steps (rw e at h) in
            let s = r.0 in
            inr (s, r.1, both_l (t.on s) (t.sets s f) r.2, both_r (t.on s) (t.sets s f) r.2, e ∙ r.3)
      ]

  pub right_up : (d e : ℕ → ℕ) → Under t.facts d e → (f : ℕ) → right_side t c mark d f ≤ right_side t c mark e f
  right_up d e h f =
      right_ge e f (right_side t c mark d f) (right_mark d f) (right_start d f)
      (λ s l on set. omega (arith, right_step d s f l on set, through_up t c d e h s))

  -- ---- the rounds

  abbrev round : ℕ → ℕ → ℕ
  round k = entry (rounds t c mark k)

  pub round_first : (f : ℕ) → f < t.facts → entry (rounds t c mark 0) f ≡ pick (t.start f) 0 mark
  unfolding rounds
  round_first f l = entry_list t.facts _ f l

  pub round_next : (k f : ℕ) → f < t.facts → entry (rounds t c mark (suc k)) f ≡ right_side t c mark (entry (rounds t c mark k)) f
  unfolding rounds
  round_next k f l = entry_list t.facts _ f l

  length_rounds : (k : ℕ) → length (rounds t c mark k) ≡ t.facts
  unfolding rounds
  length_rounds zero = length_list t.facts _
  length_rounds (suc k) = length_list t.facts _

  round_down : (k f : ℕ) → f < t.facts → round (suc k) f ≤ round k f
  round_down zero f l =
      elim (tell (t.start f)) [
        | inl h ↦ omega (arith, round_next 0 f l, right_start (round 0) f h)
        | inr h ↦ omega (arith, round_next 0 f l, right_mark (round 0) f, round_first f l, pick_false 0 mark h)
      ]
  round_down (suc k) f l =
      omega (arith, round_next k f l, round_next (suc k) f l, right_up (round (suc k)) (round k) (round_down k) f)

  -- a table that lies below its own right side lies below every round
  round_ge : (e : ℕ → ℕ) → Under t.facts e (right_side t c mark e) → (k : ℕ) → Under t.facts e (round k)
  round_ge e h zero f l =
      elim (tell (t.start f)) [
        | inl a ↦ omega (arith, h f l, right_start e f a)
        | inr a ↦ omega (arith, h f l, right_mark e f, round_first f l, pick_false 0 mark a)
      ]
  round_ge e h (suc k) f l = omega (arith, h f l, round_next k f l, right_up e (round k) (round_ge e h k) f)

  -- ---- n rounds are enough: each settles one fact more

  -- the facts of X do not change after round k
  abbrev Fixed : ℕ → Set → Type 0
  Fixed k X = (f : ℕ) → f < t.facts → Is (X f) → (j : ℕ) → k ≤ j → round k f ≤ round j f

  -- f is the cheapest of the facts outside X: none of them ever becomes cheaper than it
  cheapest : (k : ℕ) (X : Set) → Fixed k X → (f : ℕ) → f < t.facts → ((g : ℕ) → g < t.facts → X g ≡ false → round (suc k) f ≤ round (suc k) g)
      → (j : ℕ) → suc k ≤ j → (g : ℕ) → g < t.facts → X g ≡ false → round (suc k) f ≤ round j g
  cheapest k X fixed f l low = le_ind (λ j. (g : ℕ) → g < t.facts → X g ≡ false → round (suc k) f ≤ round j g) low next
    where
      next : (j : ℕ) → suc k ≤ j → ((g : ℕ) → g < t.facts → X g ≡ false → round (suc k) f ≤ round j g)
          → (g : ℕ) → g < t.facts → X g ≡ false → round (suc k) f ≤ round (suc j) g
      next j kj ih g b out =
          rw (round_next j g b)
          (right_ge (round j) g (round (suc k) f) (omega (arith, round_next k f l, right_mark (round k) f))
          (λ h. omega (arith, low g b out, round_next k g b, right_start (round k) g h))
          (λ s m on set.
          elim (tell (within t.facts (t.needs s) X)) [
            | inl y ↦
                omega (
                  arith,
                  low g b out,
                  round_next k g b,
                  right_step (round k) s g m on set,
                  through_mono t t c c (round k) (round j) s (omega arith)
                      (λ q i x. (i, x, fixed q i (within_at t.facts (t.needs s) X y q i x) j (omega arith))),
                )
            | inr y ↦
                let r = within_not t.facts (t.needs s) X y in
                omega (arith, ih r.0 r.1 r.3, through_need t c (round j) s r.0 r.1 r.2)
          ]))

  fixed_by : (k : ℕ) → k ≤ t.facts → (X : Set) × Fixed k X × (k ≤ count t.facts X)
  unfolding none
  fixed_by zero l = (none, λ f b h. not_both_ways h refl, omega arith)
  fixed_by (suc k) l = let r = fixed_by k (omega arith) in go r.0 r.1 r.2 (lowest_outside t.facts r.0 (round (suc k)))
    where
      go : (X : Set) → Fixed k X → k ≤ count t.facts X
          → ((f : ℕ) → f < t.facts → Is (X f)) ⊎ ((f : ℕ) × (f < t.facts) × (X f ≡ false) × ((g : ℕ) → g < t.facts → X g ≡ false → round (suc k) f ≤ round (suc k) g))
          → (X : Set) × Fixed (suc k) X × (suc k ≤ count t.facts X)
      go X fixed many (inl full) = (
        X,
        λ f b h j kj. omega (arith, fixed f b h j (omega arith), round_down k f b),
        omega (arith, count_full t.facts X full),
      )
      go X fixed many (inr (f, b, out, low)) = (
        added X f,
        λ g m h j kj. elim (ℕ_discrete g f) [
          | yes e ↦ subst (λ (g : ℕ). round (suc k) g ≤ round j g) (sym e) (cheapest k X fixed f b low j kj f b out)
          | no e ↦ omega (arith, fixed g m (sym (added_other X f g e) ∙ h) j (omega arith), round_down k g m)
        ],
        omega (arith, count_lt t.facts X (added X f) held f b out (added_itself X f f refl)),
      )
        where
          held : (g : ℕ) → g < t.facts → Is (X g) → Is (added X f g)
          held g m x = elim (ℕ_discrete g f) [ yes e ↦ added_itself X f g e | no e ↦ added_other X f g e ∙ x ]

  -- ---- the equation

  pub length_distances : length (distances t c mark) ≡ t.facts
  unfolding distances
  length_distances = length_rounds t.facts

  -- the distances solve it
  pub distance_solves : (f : ℕ) → f < t.facts → distance t c mark f ≡ right_side t c mark (distance t c mark) f
  unfolding distance distances
  distance_solves f l =
      let r = fixed_by t.facts (omega arith) in
      let h = r.1 f l (all_counted t.facts r.0 r.2 f l) (suc t.facts) (omega arith) in
      omega (arith, h, round_down t.facts f l, round_next t.facts f l)

  -- and are its largest solution, also among tables that only lie below their right side
  pub distance_largest : (e : ℕ → ℕ) → Under t.facts e (right_side t c mark e) → Under t.facts e (distance t c mark)
  unfolding distance distances
  distance_largest e h = round_ge e h t.facts

  -- what the equation says of a start fact, of any fact, and of a step
  pub distance_start : (f : ℕ) → f < t.facts → Is (t.start f) → distance t c mark f ≡ 0
  distance_start f l h = distance_solves f l ∙ right_start (distance t c mark) f h

  pub distance_mark : (f : ℕ) → f < t.facts → distance t c mark f ≤ mark
  distance_mark f l = omega (arith, distance_solves f l, right_mark (distance t c mark) f)

  pub distance_step : Still t c 0 t.steps (distance t c mark)
  distance_step s f z l b on set = omega (arith, distance_solves f b, right_step (distance t c mark) s f l on set)

  -- ---- relaxing

  -- a table nowhere below the distances that no step relaxes any more is the distances
  pub relaxed_is : (d : ℕ → ℕ) → Under t.facts (distance t c mark) d → Under t.facts d (λ f. mark) → ((f : ℕ) → f < t.facts → Is (t.start f) → d f ≡ 0)
      → Still t c 0 t.steps d → (f : ℕ) → f < t.facts → d f ≡ distance t c mark f
  relaxed_is d above most first still f l =
      le_antisymm (distance_largest d (λ g b. right_ge d g (d g) (most g b) (first g b) (λ s m on set. still s g (omega arith) m b on set)) f l) (above f l)

  -- a list of n numbers that are the distances
  pub distances_only : (z : List ℕ) → length z ≡ t.facts → ((f : ℕ) → f < t.facts → entry z f ≡ distance t c mark f) → z ≡ distances t c mark
  unfolding distance
  distances_only z e h =
      list_only t.facts (entry (distances t c mark)) z e h
      ∙ sym (list_only t.facts (entry (distances t c mark)) (distances t c mark) length_distances (λ f l. refl))

-- ---- fewer ways to a fact, or dearer ones, bring it no nearer

-- t under c against u under e: it starts with what u starts with, and each step that is on in u is on in t, where it sets as much, needs no more and costs no more
pub record Nearer (t u : Task) (c e : ℕ → ℕ) : Type 0 where
  pub facts : t.facts ≡ u.facts
  pub steps : t.steps ≡ u.steps
  pub start : (f : ℕ) → f < t.facts → Is (u.start f) → Is (t.start f)
  pub on : (s : ℕ) → s < t.steps → Is (u.on s) → Is (t.on s)
  pub sets : (s f : ℕ) → s < t.steps → f < t.facts → Is (u.sets s f) → Is (t.sets s f)
  pub needs : (s f : ℕ) → s < t.steps → f < t.facts → Is (t.needs s f) → Is (u.needs s f)
  pub cost : (s : ℕ) → s < t.steps → c s ≤ e s

pub distance_less : (mark : ℕ) (t u : Task) (c e : ℕ → ℕ) → Nearer t u c e → Under t.facts (distance t c mark) (distance u e mark)
distance_less mark t u c e r f l =
    distance_largest u e mark (distance t c mark) under f (omega (arith, r.facts))
  where
    under : Under u.facts (distance t c mark) (right_side u e mark (distance t c mark))
    under g b =
        let k : g < t.facts = omega (arith, r.facts) in
        right_ge u e mark (distance t c mark) g (distance t c mark g) (distance_mark t c mark g k) (λ h. distance_start t c mark g k (r.start g k h))
        (λ s m on set.
        let j : s < t.steps = omega (arith, r.steps) in
        omega (
          arith,
          distance_step t c mark s g (omega arith) j k (r.on s j on) (r.sets s g j k set),
          through_mono t u c e (distance t c mark) (distance t c mark) s (r.cost s j) (λ q i x. (omega (arith, r.facts), r.needs s q j i x, omega arith)),
        ))

-- lower costs: what were the distances is nowhere below what they are now
pub distance_cheaper : (mark : ℕ) (t : Task) (c e : ℕ → ℕ) → ((s : ℕ) → s < t.steps → c s ≤ e s) → Under t.facts (distance t c mark) (distance t e mark)
distance_cheaper mark t c e h =
    distance_less mark t t c e
    record {
      facts = refl;
      steps = refl;
      start = λ f l x. x;
      on = λ s l x. x;
      sets = λ s f l b x. x;
      needs = λ s f l b x. x;
      cost = h;
    }

-- tasks with the same start, the same steps that are on and the same needs and sets have the same distances
pub distances_same : (mark : ℕ) (t u : Task) (c : ℕ → ℕ) → Nearer t u c c → Nearer u t c c → distances t c mark ≡ distances u c mark
unfolding distance
distances_same mark t u c p q =
    distances_only u c mark (distances t c mark) (length_distances t c mark ∙ p.facts)
    (λ f l. le_antisymm (distance_less mark t u c c p f (omega (arith, p.facts))) (distance_less mark u t c c q f l))
