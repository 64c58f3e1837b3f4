-- A text written after another is both written in one: the bytes go on the page one after the other.
use Prim.Native.Nat.{ℕ}
use mathlib.Core.Path.{◌≡◌, refl, sym, ap, ◌∙◌}
use mathlib.Core.List.{List, [], ◌∷◌, ◌++◌}
use Rattle.std.specs.Prelude.{Err}
use Rattle.task.specs.Refusal.{Refusal, Verdict}
use Rattle.report.specs.declared.text.Page.{Page as Lent}
use Rattle.report.specs.Page.{Page, putting, written}
use Rattle.report.specs.Writing.{held, Writes, WritesUnless}

pub written_append : (a b : List ℕ) (p : Page) → written (a ++ b) p ≡ written b (written a p)
unfolding written
written_append [] b p = refl
written_append (x ∷ a) b p = written_append a b (putting x p)

pub writes_none : (p : Lent) → Writes [] p p
unfolding written
writes_none p = record { same_buffer = refl; wrote = refl }

pub writes_on : (a b : List ℕ) (p q r : Lent) → Writes a p q → Writes b q r → Writes (a ++ b) p r
writes_on a b p q r first next = record {
  same_buffer = next.same_buffer ∙ first.same_buffer;
  wrote = next.wrote ∙ ap (written b) first.wrote ∙ sym (written_append a b (held p));
}

pub writes_as : (a b : List ℕ) (p q : Lent) → a ≡ b → Writes a p q → Writes b p q
writes_as a b p q e put = rw e at put

-- nothing is written where something is refused
pub writes_refused : (v w : Verdict) (r : Refusal) (text : List ℕ) (p : Lent) → v ≡ Err r → w ≡ Err r → record { verdict : v ≡ w; written : WritesUnless v text p p }
writes_refused v w r text p e f = record { verdict = e ∙ sym f; written = rw e (writes_none p) }
