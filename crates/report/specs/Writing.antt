-- What the code's page holds, and what was written on it.
use Rattle.std.specs.Prelude.{ℕ, ◌≡◌, List, [], Ok, Err}
use Rattle.task.specs.Refusal.{Verdict}
use Rattle.report.specs.declared.text.Page.{Page as Lent}
use Rattle.report.specs.Page.{Page, page, written}

-- the buffer's bytes and the position
abbrev pub held : Lent → Page
held p = page p.out.now p.at

-- the text was written, and nothing else, into the same buffer
pub record Writes (text : List ℕ) (old new : Lent) : Type 0 where
  pub same_buffer : new.out.ghost_name ≡ old.out.ghost_name
  pub wrote : held new ≡ written text (held old)

-- the text was written unless something is refused, and nothing where it is
abbrev pub WritesUnless : Verdict → List ℕ → Lent → Lent → Type 0
WritesUnless (Ok done) text old new = Writes text old new
WritesUnless (Err r) text old new = Writes [] old new
