-- What `distances` answers, and what stands in the result table after it.
use Rattle.std.specs.Prelude.{ℕ, List, [], ◌∷◌, ◌++◌, length, drop, Ok, Err}
use Rattle.sets.specs.Tests.{below}
use Rattle.task.specs.declared.refusal.Fault.TheVariants.{ShortResult}
use Rattle.task.specs.Limits.{limits}
use Rattle.task.specs.Tables.{Tables, view}
use Rattle.task.specs.Refusal.{Verdict, refused_if, first_refusal}
use Rattle.task.specs.Check.{verdict_of}
use Rattle.distance.specs.Distance.{distances}

-- 1 to 5 by checking, and 6 for a result table of fewer than n numbers
unfoldable pub distances_verdict : Tables → ℕ → Verdict
distances_verdict t room = first_refusal (verdict_of t ∷ refused_if (below room t.facts) ShortResult ∷ [])

-- the n distances, and beyond them what stood there; a refusal leaves all as it was
unfoldable pub written_by : Verdict → Tables → List ℕ → List ℕ
written_by (Ok done) t out = distances (view t) (view t).cost limits.mark ++ drop t.facts out
written_by (Err r) t out = out

unfoldable pub distances_written : Tables → List ℕ → List ℕ
distances_written t out = written_by (distances_verdict t (length out)) t out
