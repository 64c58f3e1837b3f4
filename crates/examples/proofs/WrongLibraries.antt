-- Five wrong libraries, each shut out by what the definitions give for document 01's first task: the contracts promise that, and it would say something else.
use Prim.Native.Nat.{ℕ, ◌*◌}
use mathlib.Core.Path.{◌≡◌, refl, sym, ap, ◌∙◌}
use mathlib.Core.List.{List, [], ◌∷◌, ◌++◌}
use native.Mathlib.Omega.{arith}
use lib.ListN.{get_or, drop}
use Rattle.std.specs.Prelude.{Ok, Err}
use Rattle.sets.specs.declared.bits.Bits.{Bits}
use Rattle.task.specs.Limits.{limits}
use Rattle.task.specs.Tables.{Tables, view}
use Rattle.task.specs.Refusal.{Refusal, Verdict}
use Rattle.task.specs.Check.{verdict_of}
use Rattle.task.proofs.Refusals.{refused_fine}
use Rattle.reach.specs.declared.Reached.{Reached}
use Rattle.reach.specs.Answer.{reached_of}
use Rattle.distance.specs.Distance.{distances}
use Rattle.distance.specs.Answer.{distances_verdict, written_by}
use Rattle.must.specs.Answer.{passed_of}
use Rattle.cuts.specs.declared.Cutting.{Cutting}
use Rattle.cuts.specs.Answer.{cuts_verdict, cutting_by, cuts_written}
use Rattle.examples.specs.Table.{report}
use Rattle.examples.specs.Claim.{Right}
use Rattle.examples.proofs.Examples.{examples}

abbrev first : Tables
first = report.task

-- what is said of it in the table
said : Right report
said = examples 0 report (omega arith)

-- one that refuses all
pub not_refused : (r : Refusal) → ¬ (verdict_of first ≡ Err r)
not_refused r e = refused_fine (sym e ∙ said.check)

-- one that reports an empty list and floor 0 always
pub not_empty : (set : Bits 4) × (passed_of first ≡ Ok set) × ¬ (set.words ≡ 0 ∷ 0 ∷ 0 ∷ 0 ∷ [])
not_empty = (_, said.must, (λ e. let word : ◌≡◌ {A = ℕ} 29 0 = ap (λ (ws : List ℕ). get_or ws 0 0) e in omega arith))

pub floor_told : (c : Cutting) × (cutting_by (cuts_verdict first (16 * 5) 5 5) (view first) ≡ Ok c) × (c.floor ≡ 5)
floor_told = (_, said.cutting, refl)

-- one that writes nothing: a table of distances, whatever it held, begins with the distance of fact 0
first_entry : (x : ℕ) (xs ws zs : List ℕ) → xs ++ [] ≡ x ∷ ws → get_or (xs ++ zs) 0 0 ≡ x
first_entry x [] ws zs e = let z : ◌≡◌ {A = ℕ} 0 1 = cc in absurd (omega arith)
first_entry x (y ∷ ys) ws zs e = cc

first_written : (v : Verdict) (x : ℕ) (ws before : List ℕ) → written_by v first [] ≡ x ∷ ws → get_or (written_by v first before) 0 0 ≡ x
unfolding written_by
first_written (Ok done) x ws before e = first_entry x (distances (view first) (view first).cost limits.mark) ws (drop 5 before) e
first_written (Err r) x ws before e = let z : ◌≡◌ {A = ℕ} 0 1 = cc in absurd (omega arith)

pub something_written : (before : List ℕ) → get_or (written_by (distances_verdict first 5) first before) 0 0 ≡ 1
something_written before = first_written _ 1 _ before said.distances

-- one that makes the first cut and then repeats it
pub not_repeated : let rows = cuts_written (cuts_verdict first (16 * 5) 5 5) (view first) [] in ¬ (get_or rows 16 0 ≡ get_or rows 0 0)
not_repeated e =
    let words : ◌≡◌ {A = ℕ} 8 16 = sym (ap (λ (ws : List ℕ). get_or ws 16 0) said.rows) ∙ e ∙ ap (λ (ws : List ℕ). get_or ws 0 0) said.rows in omega arith

-- one that invents its number of passes or rounds
pub passes_told : (reached : Reached) × (reached_of first ≡ Ok reached) × (reached.passes ≡ 4)
passes_told = (_, said.reach, refl)

pub rounds_told : (c : Cutting) × (cutting_by (cuts_verdict first (16 * 5) 5 5) (view first) ≡ Ok c) × (c.rounds ≡ 4)
rounds_told = (_, said.cutting, refl)
