-- Contents that fit are records that follow one another, and records that follow are those of contents that fit: by induction on the facts and steps.
use Prim.Native.Nat.{ℕ, zero, suc, ◌+◌, ◌≤◌, ◌<◌}
use mathlib.Core.Path.{◌≡◌, refl, sym, ap, ap₂, ◌∙◌}
use mathlib.Core.Bool.{Bool, false}
use mathlib.Core.Logic.{inl, inr}
use mathlib.Core.List.{List, [], ◌∷◌, ◌++◌, append_assoc}
use native.Mathlib.Numerals.{add-one}
use native.Mathlib.Omega.{arith}
use lib.ListN.{length}
use Rattle.sets.specs.Tests.{Is, no, both, below, same, pick}
use Rattle.sets.proofs.Tests.{not_is, both_l, both_r, both_true, either_not, no_true, no_false, below_true, below_at, below_false, below_not, same_true, same_at, pick_true, pick_false, tell}
use Rattle.std.specs.Prelude.{Some}
use Rattle.task.specs.declared.refusal.Fault.TheVariants.{FactCount, StepCount, StepCost, ShortResult, Misplaced, RecordFact, StepRecords}
use Rattle.task.specs.Check.{wrong_facts, wrong_steps}
use Rattle.task.proofs.Refusals.{skip_fine, none_left, fine_first, fine_rest}
use Rattle.taskfile.specs.declared.format.Part.{Part}
use Rattle.taskfile.specs.declared.format.Record.TheVariants.{End, Head, Step, Names}
use Rattle.taskfile.specs.declared.cursor.Cursor.{Cursor}
use Rattle.taskfile.specs.Sound.{Naming, Block, Contents, naming_records, block_records, records_of, first_fits, part_fits, all_of, block_fits, fits}
use Rattle.taskfile.specs.Records.{Record, is_first}
use Rattle.taskfile.specs.Meaning.{first_namings, blocks_in, contents_of}
use Rattle.taskfile.specs.Judging.{begin, fact_in_place, in_place, numbers_verdict, record_verdict}
use Rattle.taskfile.proofs.Refusing.{at_fine, fine_at, at_test, test_at, or_fine, or_first, or_second}
use Rattle.taskfile.proofs.Bytes.{end_writable, head_writable, step_writable, fact_writable}
use Rattle.taskfile.proofs.Following.{Goes, Follows, last, next, no_end_head, no_end_step, no_end_fact}

-- ---- the contents of their records

-- the facts named at the front
firsts_back : (gs : List Naming) (rs : List Record) → first_namings rs ≡ [] → first_namings (naming_records gs ++ rs) ≡ gs
unfolding first_namings naming_records
firsts_back [] rs e = e
firsts_back (g ∷ gs) rs e = ap (λ l. g ∷ l) (firsts_back gs rs e)

blocks_skip : (gs : List Naming) (rs : List Record) → blocks_in (naming_records gs ++ rs) ≡ blocks_in rs
unfolding blocks_in naming_records
blocks_skip [] rs = refl
blocks_skip (g ∷ gs) rs = blocks_skip gs rs

-- what follows the head, grouped from the right
abbrev rest : List Naming → List Block → List Record
rest gs bs = naming_records gs ++ (block_records bs ++ (End ∷ []))

block_rest : (b : Block) (bs : List Block) → block_records (b ∷ bs) ++ (End ∷ []) ≡ Step b.cost ∷ rest b.parts bs
unfolding block_records
block_rest b bs = ap (λ l. Step b.cost ∷ l) (append_assoc (naming_records b.parts) (block_records bs) (End ∷ []))

no_first : (bs : List Block) → first_namings (block_records bs ++ (End ∷ [])) ≡ []
unfolding first_namings block_records
no_first [] = refl
no_first (b ∷ bs) = refl

blocks_back : (bs : List Block) → blocks_in (block_records bs ++ (End ∷ [])) ≡ bs
unfolding blocks_in block_records
blocks_back [] = refl
blocks_back (b ∷ bs) =
    ap blocks_in (block_rest b bs)
    ∙ ap₂ (λ ps l. record { cost = b.cost; parts = ps } ∷ l) (firsts_back b.parts _ (no_first bs)) (blocks_skip b.parts _ ∙ blocks_back bs)

-- all of them, so grouped
pub records_as : (c : Contents) → records_of c ≡ Head c.facts (length c.blocks) ∷ rest c.firsts c.blocks
unfolding records_of
records_as c = ap (λ l. Head c.facts (length c.blocks) ∷ l) (append_assoc (naming_records c.firsts) (block_records c.blocks) (End ∷ []))

-- and their contents are they
pub contents_back : (c : Contents) → contents_of (records_of c) ≡ c
unfolding contents_of
contents_back c =
    ap contents_of (records_as c)
    ∙ ap₂ (λ gs bs. record { facts = c.facts; firsts = gs; blocks = bs })
    (firsts_back c.firsts _ (no_first c.blocks)) (blocks_skip c.firsts _ ∙ blocks_back c.blocks)

-- ---- a record that is sound, and what it says

abbrev naming : Part → ℕ → Naming
naming part f = record { part = part; fact = f }

-- start and goal fit before the first step, the other parts after one
module _ (n : ℕ) (part : Part) (f : ℕ) (fact : f < n) where
  first_fits_lem : Is (is_first part) → Is (first_fits n (naming part f))
  unfolding first_fits
  first_fits_lem h = both_true _ _ h (below_true f n fact)

  part_fits_lem : is_first part ≡ false → Is (part_fits n (naming part f))
  unfolding part_fits
  part_fits_lem h = both_true _ _ (no_true _ h) (below_true f n fact)

-- which facts fit after b steps
unfoldable fits_after : ℕ → ℕ → Naming → Bool
fits_after n zero = first_fits n
fits_after n (suc b) = part_fits n

-- a cursor past the head
abbrev past : ℕ → ℕ → ℕ → ℕ → Cursor
past at n m b = record { at = at; head = Some (record { facts = n; steps = m }); begun = b }

module _ (room : ℕ → Bool) (at n m : ℕ) where
  -- a fact
  fact_goes : (b : ℕ) (part : Part) (f : ℕ) → f < n → n ≤ 256 → Is (pick (is_first part) (same b 0) (below 0 b)) → Goes room (past at n m b) (Names part f)
  unfolding record_verdict numbers_verdict in_place fact_in_place both
  fact_goes b part f fact few place = record {
    written = fact_writable {part = part} {f = f} (omega arith);
    fine = or_fine _ _ (at_test at Misplaced place) (at_test at RecordFact (below_true f n fact));
  }

  names_go : (b : ℕ) (g : Naming) → n ≤ 256 → Is (fits_after n b g) → Goes room (past at n m b) (Names g.part g.fact)
  unfolding fits_after first_fits part_fits
  names_go zero g few h =
      fact_goes zero g.part g.fact (below_at g.fact n (both_r _ _ h)) few (pick_true _ _ (both_l _ _ h) ∙ same_true 0 0 refl)
  names_go (suc b) g few h =
      fact_goes (suc b) g.part g.fact (below_at g.fact n (both_r _ _ h)) few
      (pick_false _ _ (no_false _ (both_l _ _ h)) ∙ below_true 0 (suc b) (omega arith))

  go_fact : (b : ℕ) (part : Part) (f : ℕ) → Goes room (past at n m b) (Names part f) → (f < n) × Is (pick (is_first part) (same b 0) (below 0 b))
  unfolding record_verdict numbers_verdict in_place fact_in_place both
  go_fact b part f g = (below_at f n (test_at at RecordFact _ (or_second _ _ g.fine)), test_at at Misplaced _ (or_first _ _ g.fine))

  go_names : (b : ℕ) (part : Part) (f : ℕ) → Goes room (past at n m b) (Names part f) → Is (fits_after n b (naming part f))
  unfolding fits_after
  go_names zero part f g =
      let k = go_fact zero part f g in
      elim (tell (is_first part)) [
        | inl h ↦ first_fits_lem n part f k.0 h
        | inr h ↦ absurd (omega (arith, below_at 0 0 (sym (pick_false _ _ h) ∙ k.1)))
      ]
  go_names (suc b) part f g =
      let k = go_fact (suc b) part f g in
      elim (tell (is_first part)) [
        | inl h ↦ absurd (omega (arith, same_at (suc b) 0 (sym (pick_true _ _ h) ∙ k.1)))
        | inr h ↦ part_fits_lem n part f k.0 h
      ]

module _ (room : ℕ → Bool) (at n m b : ℕ) where
  -- a step
  step_goes : (cost : ℕ) → cost ≤ 65535 → b < m → Goes room (past at n m b) (Step cost)
  unfolding record_verdict numbers_verdict in_place
  step_goes cost cheap more = record {
    written = step_writable {cost = cost} (omega arith);
    fine =
        or_fine _ _ (at_test at Misplaced refl)
        (skip_fine _ (at_fine at StepCost (below_false 65535 cost cheap)) ∙ skip_fine [] (at_test at StepRecords (below_true b m more)) ∙ none_left);
  }

  go_step : (cost : ℕ) → Goes room (past at n m b) (Step cost) → (cost ≤ 65535) × (b < m)
  unfolding record_verdict numbers_verdict in_place
  go_step cost g =
      let numbers = or_second _ _ g.fine in
      (below_not 65535 cost (fine_at at StepCost _ (fine_first _ _ numbers)), below_at b m (test_at at StepRecords _ (fine_first _ _ (fine_rest _ _ numbers))))

  -- the end
  end_goes : b ≡ m → Goes room (past at n m b) End
  unfolding record_verdict numbers_verdict in_place
  end_goes e = record { written = end_writable; fine = or_fine _ _ (at_test at Misplaced refl) (at_test at StepRecords (same_true b m e)) }

  go_end : Goes room (past at n m b) End → b ≡ m
  unfolding record_verdict numbers_verdict in_place
  go_end g = same_at b m (test_at at StepRecords _ (or_second _ _ g.fine))

  -- no second head
  go_head : {A : Type 0} (k l : ℕ) → Goes room (past at n m b) (Head k l) → A
  unfolding record_verdict in_place no
  go_head k l g = not_is (test_at at Misplaced false (or_first _ _ g.fine))

-- sizes that are not refused
pub few_facts : (n : ℕ) → wrong_facts n ≡ false → n ≤ 256
unfolding wrong_facts
few_facts n h = below_not 256 n (either_not _ _ h).1

pub few_steps : (m : ℕ) → wrong_steps m ≡ false → m ≤ 1024
unfolding wrong_steps
few_steps m h = below_not 1024 m h

-- the head
module _ (room : ℕ → Bool) (n m : ℕ) where
  head_goes : wrong_facts n ≡ false → wrong_steps m ≡ false → Is (room m) → Goes room begin (Head n m)
  unfolding record_verdict numbers_verdict in_place no
  head_goes f s r = record {
    written = head_writable {n = n} {m = m} (omega (arith, few_facts n f)) (omega (arith, few_steps m s));
    fine =
        or_fine _ _ (at_fine 0 Misplaced refl)
        (skip_fine _ (at_fine 0 FactCount f) ∙ skip_fine _ (at_fine 0 StepCount s) ∙ skip_fine [] (at_test 0 ShortResult r) ∙ none_left);
  }

  go_first : Goes room begin (Head n m) → (wrong_facts n ≡ false) × (wrong_steps m ≡ false) × Is (room m)
  unfolding record_verdict numbers_verdict
  go_first g =
      let numbers = or_second _ _ g.fine in
      let sizes = fine_rest _ _ numbers in
      (fine_at 0 FactCount _ (fine_first _ _ numbers), fine_at 0 StepCount _ (fine_first _ _ sizes), test_at 0 ShortResult _ (fine_first _ _ (fine_rest _ _ sizes)))

-- ---- contents that fit are records that follow

module _ (room : ℕ → Bool) (n m : ℕ) (few : n ≤ 256) where
  follow_namings : (b at : ℕ) (gs : List Naming) (rs : List Record) → Is (all_of (fits_after n b) gs) → ((at : ℕ) → Follows room (past at n m b) rs)
      → Follows room (past at n m b) (naming_records gs ++ rs)
  unfolding naming_records all_of
  follow_namings b at [] rs h more = more at
  follow_namings b at (g ∷ gs) rs h more =
      next no_end_fact (names_go room at n m b g few (both_l _ _ h))
      (follow_namings b (at + 3) gs rs (both_r _ _ h) more)

  follow_blocks : (bs : List Block) (b at : ℕ) → Is (all_of (block_fits n) bs) → b + length bs ≡ m
      → Follows room (past at n m b) (block_records bs ++ (End ∷ []))
  unfolding block_records all_of block_fits fits_after
  follow_blocks [] b at h e = last (end_goes room at n m b (omega arith))
  follow_blocks (x ∷ bs) b at h e =
      let x_fits = both_l _ _ h in
      let parts : Is (all_of (fits_after n (b + 1)) x.parts) = rw (add-one b) (both_r _ _ x_fits) in
      rw (block_rest x bs)
      (next no_end_step
      (step_goes room at n m b x.cost (below_not 65535 x.cost (no_false _ (both_l _ _ x_fits))) (omega arith))
      (follow_namings (b + 1) (at + 5) x.parts _ parts (λ k. follow_blocks bs (b + 1) k (both_r _ _ h) (omega arith))))

-- from the beginning
pub fits_follow : (room : ℕ → Bool) (c : Contents) → Is (fits c) → Is (room (length c.blocks)) → Follows room begin (records_of c)
unfolding fits fits_after
fits_follow room c h r =
    let facts = no_false _ (both_l _ _ h) in
    let rest_fits = both_r _ _ h in
    let steps = no_false _ (both_l _ _ rest_fits) in
    let few = few_facts c.facts facts in
    let m = length c.blocks in
    rw (records_as c)
    (next no_end_head (head_goes room c.facts m facts steps r)
    (follow_namings room c.facts m few 0 5 c.firsts _ (both_l _ _ (both_r _ _ rest_fits))
    (λ k. follow_blocks room c.facts m few c.blocks 0 k (both_r _ _ (both_r _ _ rest_fits)) (omega arith))))

-- ---- records that follow are those of contents that fit

-- after b steps: facts that fit there, the steps that are left, and an end
record Parted (n m b : ℕ) (rs : List Record) : Type 0 where
  is : rs ≡ rest (first_namings rs) (blocks_in rs)
  firsts : Is (all_of (fits_after n b) (first_namings rs))
  blocks : Is (all_of (block_fits n) (blocks_in rs))
  count : b + length (blocks_in rs) ≡ m

follows_parted : (room : ℕ → Bool) (at n m b : ℕ) {rs : List Record} → Follows room (past at n m b) rs → Parted n m b rs
unfolding first_namings blocks_in naming_records block_records all_of block_fits fits_after
follows_parted room at n m b (last g) = record { is = refl; firsts = refl; blocks = refl; count = omega (arith, go_end room at n m b g) }
follows_parted room at n m b (next {r = End} h g fs) = absurd (h refl)
follows_parted room at n m b (next {r = Head k l} h g fs) = go_head room at n m b k l g
follows_parted room at n m b (next {r = Step cost} {rs} h g fs) =
    let p = follows_parted room (at + 5) n m (b + 1) fs in
    let s = go_step room at n m b cost g in
    let parts : Is (all_of (part_fits n) (first_namings rs)) = rw (add-one b) at p.firsts in record {
      is = ap (λ l. Step cost ∷ l) p.is ∙ sym (block_rest (record { cost = cost; parts = first_namings rs }) (blocks_in rs));
      firsts = refl;
      blocks = both_true _ _ (both_true _ _ (no_true _ (below_false 65535 cost s.0)) parts) p.blocks;
      count = omega (arith, p.count);
    }
follows_parted room at n m b (next {r = Names part f} {rs} h g fs) =
    let p = follows_parted room (at + 3) n m b fs in record {
      is = ap (λ l. Names part f ∷ l) p.is;
      firsts = both_true _ _ (go_names room at n m b part f g) p.firsts;
      blocks = p.blocks;
      count = p.count;
    }

-- from the beginning
pub follows_contents : (room : ℕ → Bool) {rs : List Record} → Follows room begin rs
    → (rs ≡ records_of (contents_of rs)) × Is (fits (contents_of rs)) × Is (room (length (contents_of rs).blocks))
unfolding contents_of fits fits_after in_place fact_in_place record_verdict both no
follows_contents room (last g) = not_is (test_at 0 Misplaced false (or_first _ _ g.fine))
follows_contents room (next {r = End} h g fs) = absurd (h refl)
follows_contents room (next {r = Step cost} h g fs) = not_is (test_at 0 Misplaced false (or_first _ _ g.fine))
follows_contents room (next {r = Names part f} h g fs) = not_is (test_at 0 Misplaced false (or_first _ _ g.fine))
follows_contents room (next {r = Head n m} {rs} h g fs) =
    let p = follows_parted room 5 n m 0 fs in
    let sizes = go_first room n m g in
    let count : m ≡ length (blocks_in rs) = omega (arith, p.count) in
    let steps : wrong_steps (length (blocks_in rs)) ≡ false = ap wrong_steps (sym count) ∙ sizes.1 in (
      ap₂ (λ k l. Head n k ∷ l) count p.is ∙ sym (records_as (contents_of (Head n m ∷ rs))),
      both_true _ _ (no_true _ sizes.0) (both_true _ _ (no_true _ steps) (both_true _ _ p.firsts p.blocks)),
      ap room (sym count) ∙ sizes.2,
    )
