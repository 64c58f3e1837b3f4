-- Document 01's rule for bits at the borders of words, and right-looking answers that it rules out: all by computation.
use Prim.Native.Nat.{ℕ, ◌^◌, ◌%◌}
use mathlib.Core.Path.{◌≡◌, refl}
use mathlib.Core.List.{List, [], ◌∷◌}
use native.Mathlib.Omega.{arith}
use Rattle.std.specs.Prelude.{Some, None}
use Rattle.sets.specs.Tests.{either, below, same, pick}
use Rattle.sets.specs.Sets.{none, up_to, added, one, count, lowest, lowest_if_any, members}
use Rattle.sets.specs.Words.{bit, has, word_of, words_of, row}

-- ---- fact f is bit f mod 64 of word f div 64

fact_63 : words_of 4 (added none 63) ≡ 2 ^ 63 ∷ 0 ∷ 0 ∷ 0 ∷ []
unfolding words_of word_of added none either same one
fact_63 = refl

fact_64 : words_of 4 (added none 64) ≡ 0 ∷ 1 ∷ 0 ∷ 0 ∷ []
unfolding words_of word_of added none either same one
fact_64 = refl

fact_255 : words_of 4 (added none 255) ≡ 0 ∷ 0 ∷ 0 ∷ 2 ^ 63 ∷ []
unfolding words_of word_of added none either same one
fact_255 = refl

-- a number past the last bit is in no set
fact_256 : words_of 4 (added none 256) ≡ words_of 4 none
unfolding words_of word_of added none either same one
fact_256 = refl

-- not bit f mod 63, and not word f div 63
not_mod_63 : ¬ (words_of 4 (added none 63) ≡ 2 ^ (63 % 63) ∷ 0 ∷ 0 ∷ 0 ∷ [])
unfolding words_of word_of added none either same one
not_mod_63 e = let z : 2 ^ 63 ≡ 1 = cc in absurd (omega arith)

not_word_1 : ¬ (words_of 4 (added none 63) ≡ 0 ∷ 2 ^ 63 ∷ 0 ∷ 0 ∷ [])
unfolding words_of word_of added none either same one
not_word_1 e = let z : 2 ^ 63 ≡ 0 = cc in absurd (omega arith)

-- ---- all of n facts, the size, the lowest member and the list of members

facts_65 : words_of 4 (up_to 65) ≡ 18446744073709551615 ∷ 1 ∷ 0 ∷ 0 ∷ []
unfolding words_of word_of up_to below one
facts_65 = refl

three : List ℕ
three = 2 ^ 63 ∷ 1 ∷ 0 ∷ 4 ∷ []

three_members : members 256 (has three) ≡ 63 ∷ 64 ∷ 194 ∷ []
unfolding members has bit same pick three
three_members = refl

three_size : count 256 (has three) ≡ 3
unfolding count has bit same one three
three_size = refl

three_lowest : lowest 256 (has three) ≡ 63
unfolding lowest has bit same pick below three
three_lowest = refl

-- where there is a member, and not 256 or 0 where there is none
three_has_lowest : lowest_if_any 256 (has three) ≡ Some 63
unfolding lowest_if_any lowest has bit same pick below three
three_has_lowest = refl

none_has_lowest : lowest_if_any 256 none ≡ None
unfolding lowest_if_any lowest none pick below
none_has_lowest = refl

-- ---- a row past the table's end holds nothing, and one that the end cuts short what is there

row_cut : row 4 1 (1 ∷ 2 ∷ 3 ∷ 4 ∷ 5 ∷ []) ≡ 5 ∷ []
unfolding row
row_cut = refl

row_past : row 4 2 (1 ∷ 2 ∷ 3 ∷ 4 ∷ 5 ∷ []) ≡ []
unfolding row
row_past = refl
