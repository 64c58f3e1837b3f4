-- Writing into a lent buffer: byte after byte from a position on, as far as there is room.
use Rattle.std.specs.Prelude.{ℕ, ◌+◌, ◌≤◌, ◌≡◌, List, [], ◌∷◌, ◌++◌, length, take, drop, set}
use Rattle.sets.specs.Tests.{below, pick}

-- a buffer's bytes, and the position of the next byte
pub record Page : Type 0 where
  pub bytes : List ℕ
  pub at : ℕ

abbrev pub page : List ℕ → ℕ → Page
page bytes at = record { bytes = bytes; at = at }

-- a byte goes to the position, and the position one on; past the end nothing changes
unfoldable pub putting : ℕ → Page → Page
putting byte p = pick (below p.at (length p.bytes)) (page (set p.bytes p.at byte) (p.at + 1)) p

unfoldable pub written : List ℕ → Page → Page
written [] p = p
written (b ∷ bs) p = written bs (putting b p)

-- a text laid over a buffer from its beginning on, as far as there is room; what lies beyond the text stays
unfoldable pub laid : List ℕ → List ℕ → List ℕ
laid text before = take (length before) text ++ drop (length text) before

-- so many bytes stand at the beginning of a buffer. The second part follows from the first; both are said so that lending those bytes, `&out[..n]`, needs no proof
abbrev pub Counts : ℕ → List ℕ → Type 0
Counts n bytes = (n ≤ length bytes) × (n ≡ length (take n bytes))
