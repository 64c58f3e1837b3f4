-- The reader accepts exactly the sound files that fit: it reads the records whose bytes they are, and records that follow one another are those of contents.
use Prim.Native.Nat.{ℕ, ◌+◌, ◌≤◌}
use mathlib.Core.Path.{◌≡◌, refl, sym, ap, ◌∙◌}
use mathlib.Core.Bool.{Bool, true}
use mathlib.Core.Logic.{◌↔◌}
use mathlib.Core.List.{List, [], ◌∷◌}
use native.Mathlib.Omega.{arith}
use lib.ListN.{length, length-append}
use Rattle.sets.specs.Tests.{Is}
use Rattle.sets.proofs.Tests.{below_false, below_not}
use Rattle.std.specs.Prelude.{Ok}
use Rattle.task.specs.declared.refusal.Fault.TheVariants.{FileLength}
use Rattle.taskfile.specs.Records.{Record, part_byte, longest_file, record_bytes, file_bytes, file_records}
use Rattle.taskfile.specs.Sound.{Contents, Sound, records_of}
use Rattle.taskfile.specs.Meaning.{contents_of, contents_in}
use Rattle.taskfile.specs.Judging.{begin, file_verdict}
use Rattle.taskfile.proofs.Records.{size_is}
use Rattle.taskfile.proofs.Refusing.{at_fine, fine_at, or_fine, or_first, or_second}
use Rattle.taskfile.proofs.Bytes.{Bytes, size_some}
use Rattle.taskfile.proofs.Following.{follows_fine, follows_found, fine_follows}
use Rattle.taskfile.proofs.Contents.{contents_back, fits_follow, follows_contents}

-- ---- a sound file

-- each record has at least one byte
most_records : (rs : List Record) → length rs ≤ length (file_bytes rs)
unfolding file_bytes
most_records [] = omega arith
most_records (r ∷ rs) = omega (arith, most_records rs, length-append (record_bytes r) (file_bytes rs), size_is part_byte r, size_some r)

module _ {file : List ℕ} {c : Contents} (sound : Sound file c) where
  enough : length (records_of c) ≤ length file
  enough = omega (arith, most_records (records_of c), ap length sound.bytes)

  -- its records are those of its contents
  pub sound_records : file_records file ≡ records_of c
  unfolding file_records
  sound_records = follows_found (λ m. true) file (fits_follow (λ m. true) c sound.fit refl) sound.bytes (length file) enough

  pub sound_contents : contents_in file ≡ c
  unfolding contents_in
  sound_contents = ap contents_of sound_records ∙ contents_back c

-- it is judged fine where there is room for its steps
pub sound_fine : (room : ℕ → Bool) {file : List ℕ} {c : Contents} → Sound file c → Is (room (length c.blocks)) → file_verdict room file ≡ Ok tt
unfolding file_verdict
sound_fine room {file} {c} sound fit =
    or_fine _ _ (at_fine longest_file FileLength (below_false longest_file (length file) sound.short))
    (follows_fine room file (fits_follow room c sound.fit fit) sound.bytes (length file + 1) (omega (arith, enough sound)))

-- a file has one contents
pub sound_unique : {file : List ℕ} {c d : Contents} → Sound file c → Sound file d → c ≡ d
sound_unique s t = sym (sound_contents s) ∙ sound_contents t

pub records_unique : {file : List ℕ} {c d : Contents} → Sound file c → Sound file d → records_of c ≡ records_of d
records_unique s t = ap records_of (sound_unique s t)

-- ---- the reader accepts exactly the sound files that fit

module _ (room : ℕ → Bool) (file : List ℕ) (bytes : Bytes file) where
  pub fine_sound : file_verdict room file ≡ Ok tt → Sound file (contents_in file) × Is (room (length (contents_in file).blocks))
  unfolding file_verdict
  fine_sound e =
      let found = fine_follows room file bytes (length file + 1) begin (or_second _ _ e) in
      let parts = follows_contents room found.1 in
      let short = below_not longest_file (length file) (fine_at longest_file FileLength _ (or_first _ _ e)) in
      let sound : Sound file (contents_of found.0) = record { short = short; bytes = found.2 ∙ ap file_bytes parts.0; fit = parts.1 } in
      rw (sound_contents sound) (sound, parts.2)

  pub accepts : (file_verdict room file ≡ Ok tt) ↔ ((c : Contents) × Sound file c × Is (room (length c.blocks)))
  accepts = (λ e. (contents_in file, (fine_sound e).0, (fine_sound e).1), λ s. sound_fine room s.1 s.2)
