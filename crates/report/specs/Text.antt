-- The lines of the report as bytes: a word, the fields after it, each a blank and a decimal number, and a line feed.
use Rattle.std.specs.Prelude.{ℕ, zero, suc, ◌+◌, ◌/◌, ◌%◌, Bool, true, false, List, [], ◌∷◌, ◌++◌}
use Rattle.sets.specs.Tests.{below}
use Rattle.sets.specs.Sets.{Set, members}

-- ---- numbers

-- the byte of a digit: '0' is 48
abbrev pub digit : ℕ → ℕ
digit d = 48 + d

-- the digits of n, the highest first, where it is told whether n is less than 10; at most `most` digits before the last
unfoldable pub digits_of : ℕ → Bool → ℕ → List ℕ
digits_of zero true n = digit n ∷ []
digits_of zero false n = []
digits_of (suc most) true n = digit n ∷ []
digits_of (suc most) false n = digits_of most (below (n / 10) 10) (n / 10) ++ digit (n % 10) ∷ []

-- a number in decimal, without zeros in front: n digits are enough before its last
unfoldable pub number_text : ℕ → List ℕ
number_text n = digits_of n (below n 10) n

-- ---- words

abbrev pub blank : ℕ
blank = 32

abbrev pub line_feed : ℕ
line_feed = 10

-- "task", "reach", "must", "take", "cut", "floor", "refused"
abbrev pub task_word : List ℕ
task_word = 116 ∷ 97 ∷ 115 ∷ 107 ∷ []

abbrev pub reach_word : List ℕ
reach_word = 114 ∷ 101 ∷ 97 ∷ 99 ∷ 104 ∷ []

abbrev pub must_word : List ℕ
must_word = 109 ∷ 117 ∷ 115 ∷ 116 ∷ []

abbrev pub take_word : List ℕ
take_word = 116 ∷ 97 ∷ 107 ∷ 101 ∷ []

abbrev pub cut_word : List ℕ
cut_word = 99 ∷ 117 ∷ 116 ∷ []

abbrev pub floor_word : List ℕ
floor_word = 102 ∷ 108 ∷ 111 ∷ 111 ∷ 114 ∷ []

abbrev pub refused_word : List ℕ
refused_word = 114 ∷ 101 ∷ 102 ∷ 117 ∷ 115 ∷ 101 ∷ 100 ∷ []

-- ---- lines

-- a blank and each number
unfoldable pub fields : List ℕ → List ℕ
fields [] = []
fields (x ∷ xs) = (blank ∷ number_text x) ++ fields xs

-- the word alone where there is no number
unfoldable pub line : List ℕ → List ℕ → List ℕ
line word numbers = word ++ fields numbers ++ line_feed ∷ []

-- facts and steps
abbrev pub task_line : ℕ → ℕ → List ℕ
task_line n m = line task_word (n ∷ m ∷ [])

-- reachable facts and must-pass facts below n, must-pass steps below m, lowest first
abbrev pub reach_line : ℕ → Set → List ℕ
reach_line n X = line reach_word (members n X)

abbrev pub must_line : ℕ → Set → List ℕ
must_line n X = line must_word (members n X)

abbrev pub take_line : ℕ → Set → List ℕ
take_line m X = line take_word (members m X)

-- the cost of a cut and then its steps below m
abbrev pub cut_line : ℕ → ℕ → Set → List ℕ
cut_line m cost X = line cut_word (cost ∷ members m X)

abbrev pub floor_line : ℕ → List ℕ
floor_line x = line floor_word (x ∷ [])

-- number and place of a refusal
abbrev pub refused_line : ℕ → ℕ → List ℕ
refused_line number place = line refused_word (number ∷ place ∷ [])
