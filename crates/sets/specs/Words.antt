-- A set as 64-bit words: number f is bit f mod 64 of word f div 64. Over lists of any length; a set of facts is four words, a set of steps sixteen.
use Rattle.std.specs.Prelude.{ℕ, zero, suc, ◌+◌, ◌*◌, ◌/◌, ◌%◌, ◌^◌, ◌<◌, Bool, List, [], ◌∷◌, ◌++◌, length, get_or, take, drop}
use Rattle.sets.specs.Tests.{below, same, pick}
use Rattle.sets.specs.Sets.{Set, one}

-- bit k of the word w is 1
unfoldable pub bit : ℕ → ℕ → Bool
bit w k = same (w / 2 ^ k % 2) 1

-- the set that the words stand for; words past the end hold nothing
unfoldable pub has : List ℕ → Set
has ws f = bit (get_or ws (f / 64) 0) (f % 64)

-- the word whose k lowest bits are the members of X below k
unfoldable pub word_of : ℕ → Set → ℕ
word_of zero X = 0
word_of (suc k) X = word_of k (λ j. X (suc j)) * 2 + one (X 0)

-- the k words that stand for the members of X below 64 k
unfoldable pub words_of : ℕ → Set → List ℕ
words_of zero X = []
words_of (suc k) X = word_of 64 X ∷ words_of k (λ f. X (64 + f))

-- row i of a table of k words a row: what stands there, which is less past the table's end
unfoldable pub row : ℕ → ℕ → List ℕ → List ℕ
row k i table = take k (drop (i * k) table)

-- the table with row i replaced by these words; as it was where the row does not lie within it
unfoldable pub with_row : ℕ → ℕ → List ℕ → List ℕ → List ℕ
with_row k i words table = pick (below (length table) (i * k + k)) table (take (i * k) table ++ words ++ drop (i * k + k) table)

-- a table of n rows of k words: row i stands for the set R i
unfoldable pub table_of : ℕ → ℕ → (ℕ → Set) → List ℕ
table_of k zero R = []
table_of k (suc n) R = table_of k n R ++ words_of k (R n)

-- each is a 64-bit word
abbrev pub Words : List ℕ → Type 0
Words ws = (i : ℕ) → get_or ws i 0 < 2 ^ 64
