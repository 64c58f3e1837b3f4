-- What a program reads is the file's first bytes, and what it prints of them is the whole report, since every report has room.
use Prim.Native.Nat.{ℕ, ◌≤◌, min}
use mathlib.Core.Path.{◌≡◌, ap, ◌∙◌}
use mathlib.Core.List.{List, [], ◌++◌}
use native.Mathlib.Omega.{arith}
use lib.ListN.{length, take, drop}
use lib.Seq.{take_at}
use Rattle.std.specs.Prelude.{Option, None, Some, IfSome}
use Rattle.std.proofs.lemmas.List.{take_all}
use Rattle.std.specs.Option.{option_map}
use Rattle.std.specs.declared.io.traits.Take.{Take}
use Rattle.std.specs.Io.KnownBytes.{Appends}
use Rattle.std.specs.Io.Take.{take_limit, take_inner, take_remaining}
use Rattle.taskfile.proofs.Bytes.{Bytes}
use Rattle.arrayvec.specs.ArrayVec.{ArrayVec}
use Rattle.report.specs.Page.{laid}
use Rattle.report.specs.Report.{longest_report, report_text}
use Rattle.report.proofs.Lengths.{report_short}

first_bytes : (known : Option (List ℕ)) (before after : List ℕ) → before ≡ [] → IfSome (option_map (take 65536) known) (λ bytes. Appends (Some before) (Some after) bytes)
    → IfSome known (λ bytes. after ≡ take 65536 bytes)
first_bytes None before after none read = tt
first_bytes (Some bytes) before after none read = rw none at read

module _ {R : Type 0} (remaining : R → Option (List ℕ)) where
  pub file_read : (from : R) (taken : Take R) (empty file : ArrayVec ℕ) → take_limit taken ≡ 65536 → take_inner taken ≡ from → empty.items ≡ []
      → IfSome (take_remaining remaining taken) (λ bytes. Appends (Some empty.items) (Some file.items) bytes)
      → IfSome (remaining from) (λ bytes. file.items ≡ take 65536 bytes)
  file_read from taken empty file limit inner none read = first_bytes (remaining from) empty.items file.items none (rw (limit, inner) at read)

pub whole_report : (file before after : List ℕ) (written : ℕ) → Bytes file → length before ≡ longest_report → after ≡ laid (report_text file) before
    → written ≡ min (length (report_text file)) (length before) → take written after ≡ report_text file
unfolding laid
whole_report file before after written bytes room made count =
    let text = report_text file in
    let short : length text ≤ length before = omega (arith, report_short file bytes) in
    ap (take written) (made ∙ ap (λ (l : List ℕ). l ++ drop (length text) before) (take_all (length before) text short))
    ∙ take_at text (drop (length text) before) written (omega arith)
