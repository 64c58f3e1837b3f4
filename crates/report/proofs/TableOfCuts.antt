-- A table of cuts is written round by round; where its rows and prices are those of a list of rounds, the lines are those of the list.
use Prim.Native.Nat.{ℕ, zero, suc, ◌+◌, ◌*◌, ◌≤◌, ◌<◌}
use mathlib.Core.Path.{◌≡◌, refl, sym, ap, ◌∙◌}
use mathlib.Core.List.{List, [], ◌∷◌, ◌++◌, append-nil, append_assoc}
use native.Mathlib.Numerals.{add-one}
use native.Mathlib.Omega.{arith}
use lib.ListN.{length, get_or, take, drop}
use lib.Seq.{get_or-drop, drop-drop, take_at, drop_at}
use Rattle.sets.specs.Tests.{Is}
use Rattle.sets.specs.Sets.{members}
use Rattle.sets.specs.Words.{has, words_of, row}
use Rattle.sets.proofs.Words.{length_words_of}
use Rattle.cuts.specs.Rounds.{Round, EachRound}
use Rattle.cuts.specs.Answer.{cut_words, cut_costs}
use Rattle.report.specs.Text.{cut_word, line, cut_line}
use Rattle.report.specs.declared.text.Page.{Page as Lent}
use Rattle.report.specs.Report.{cut_lines}
use Rattle.report.specs.Workers.{table_cuts}
use Rattle.report.specs.Writing.{Writes}
use Rattle.report.proofs.Writing.{writes_none, writes_on, writes_as}
use Rattle.report.proofs.Fields.{members_made, members_read}

-- ---- the rounds from one on are left to write

cut_line_made : (cost : ℕ) (words ws : List ℕ) → words ≡ words_of 16 (has ws) → cut_line 1024 cost (has words) ≡ cut_line 1024 cost (has ws)
cut_line_made cost words ws e = ap (λ (steps : List ℕ). line cut_word (cost ∷ steps)) (members_made 16 words (has ws) e)

-- one round more
table_more : (rounds round last : ℕ) (rows prices : List ℕ) → last ≡ round + rounds
    → table_cuts (suc rounds) round rows prices ≡ table_cuts rounds round rows prices ++ cut_line 1024 (get_or prices last 0) (has (row 16 last rows))
unfolding table_cuts
table_more zero round last rows prices e = let here : last ≡ round = omega arith in rw here (append-nil (cut_line 1024 (get_or prices round 0) (has (row 16 round rows))))
table_more (suc rounds) round last rows prices e =
    let line = cut_line 1024 (get_or prices round 0) (has (row 16 round rows)) in
    ap (λ (l : List ℕ). line ++ l) (table_more rounds (suc round) last rows prices (omega arith))
    ∙ sym (append_assoc line (table_cuts rounds (suc round) rows prices) (cut_line 1024 (get_or prices last 0) (has (row 16 last rows))))

pub table_none : (rows prices : List ℕ) (p : Lent) → Writes (table_cuts 0 0 rows prices) p p
unfolding table_cuts
table_none rows prices p = writes_none p

pub table_next : (rows prices : List ℕ) (round : ℕ) (words : List ℕ) (p q r : Lent) → words ≡ words_of 16 (has (row 16 round rows))
    → Writes (table_cuts round 0 rows prices) p q → Writes (cut_line 1024 (get_or prices round 0) (has words)) q r → Writes (table_cuts (round + 1) 0 rows prices) p r
table_next rows prices round words p q r read first put =
    let front = table_cuts round 0 rows prices in
    rw (add-one round) (
    writes_as (front ++ cut_line 1024 (get_or prices round 0) (has words)) (table_cuts (suc round) 0 rows prices) p r
    (ap (λ (l : List ℕ). front ++ l) (cut_line_made (get_or prices round 0) words (row 16 round rows) read) ∙ sym (table_more round 0 round rows prices (omega arith)))
    (writes_on front (cut_line 1024 (get_or prices round 0) (has words)) p q r first put)
    )

-- ---- the rows and prices of a list of rounds

pub costs_long : (rs : List Round) → length (cut_costs rs) ≡ length rs
unfolding cut_costs
costs_long [] = refl
costs_long (r ∷ rs) = ap suc (costs_long rs)

-- a cut holds only steps below m
abbrev pub CutBelow : ℕ → Round → Type 0
CutBelow m r = (s : ℕ) → Is (r.cut s) → s < m

pub table_read : (m : ℕ) (rs : List Round) (round : ℕ) (rows prices words costs : List ℕ) → m ≤ 1024 → EachRound (CutBelow m) rs → drop (round * 16) rows ≡ cut_words rs ++ words
    → drop round prices ≡ cut_costs rs ++ costs → table_cuts (length rs) round rows prices ≡ cut_lines m rs
unfolding table_cuts cut_lines cut_words cut_costs row
table_read m [] round rows prices words costs few each here paid = refl
table_read m (r ∷ rs) round rows prices words costs few each here paid =
    let first : drop (round * 16) rows ≡ words_of 16 r.cut ++ (cut_words rs ++ words) = here ∙ append_assoc (words_of 16 r.cut) (cut_words rs) words in
    let cut : row 16 round rows ≡ words_of 16 r.cut =
    ap (take 16) first ∙ take_at (words_of 16 r.cut) (cut_words rs ++ words) 16 (length_words_of 16 r.cut) in
    let cost : get_or prices round 0 ≡ r.cost =
    ap (λ (k : ℕ). get_or prices k 0) {x = round} {y = round + 0} (omega arith) ∙ sym (get_or-drop round prices 0 0) ∙ ap (λ (l : List ℕ). get_or l 0 0) paid in
    let after : drop (suc round * 16) rows ≡ cut_words rs ++ words =
    ap (λ (k : ℕ). drop k rows) {x = suc round * 16} {y = round * 16 + 16} (omega arith) ∙ sym (drop-drop 16 (round * 16) rows) ∙ ap (drop 16) first
    ∙ drop_at (words_of 16 r.cut) (cut_words rs ++ words) 16 (length_words_of 16 r.cut) in
    let left : drop (suc round) prices ≡ cut_costs rs ++ costs =
    ap (λ (k : ℕ). drop k prices) {x = suc round} {y = round + 1} (omega arith) ∙ sym (drop-drop 1 round prices) ∙ ap (drop 1) paid in
    let lines : cut_line 1024 (get_or prices round 0) (has (row 16 round rows)) ≡ cut_line m r.cost r.cut =
    ap (λ (steps : List ℕ). line cut_word (get_or prices round 0 ∷ steps)) (members_read 16 m (row 16 round rows) r.cut cut few each.0)
    ∙ ap (λ (c : ℕ). line cut_word (c ∷ members m r.cut)) cost in
    ap (λ (l : List ℕ). l ++ table_cuts (length rs) (suc round) rows prices) lines
    ∙ ap (λ (l : List ℕ). cut_line m r.cost r.cut ++ l) (table_read m rs (suc round) rows prices words costs few each.1 after left)
