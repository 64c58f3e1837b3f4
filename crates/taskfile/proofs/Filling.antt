-- What the two loops of filling keep. The facts found so far and those still to be named are those asked for; and the rows and costs of the steps passed
-- are written, while the steps still to come are the last of all steps.
use Prim.Native.Nat.{ℕ, zero, suc, ◌+◌, ◌*◌, ◌≤◌, ◌<◌}
use mathlib.Core.Path.{◌≡◌, refl, sym, ap, ap₂, ◌∙◌}
use mathlib.Core.Bool.{Bool, true, false}
use mathlib.Core.List.{List, [], ◌∷◌, ◌++◌}
use native.Mathlib.Nat.{zero-add}
use native.Mathlib.Numerals.{add-one}
use native.Mathlib.Omega.{arith}
use lib.ListN.{length, get_or, drop, set as list_set, length-drop}
use lib.Seq.{take_all, drop-nil}
use Rattle.std.specs.Prelude.{Ok}
use Rattle.sets.specs.Tests.{both, either, same}
use Rattle.sets.specs.Sets.{Set, none, added}
use Rattle.sets.specs.Words.{has, words_of, with_row}
use Rattle.sets.proofs.Tests.{same_true, same_false, same_iff}
use Rattle.sets.proofs.Words.{has_made, whole_made, words_of_same}
use Rattle.sets.proofs.Rows.{length_table_of, Overwritten, overwrite_next}
use Rattle.sets.proofs.Writing.{Written, write_next, write_end}
use Rattle.taskfile.specs.declared.format.Part.{Part}
use Rattle.taskfile.specs.declared.format.Part.TheVariants.{Needs, Sets, Clears}
use Rattle.taskfile.specs.declared.format.Record.TheVariants.{End, Head, Step, Names}
use Rattle.taskfile.specs.declared.kind.Kind.TheVariants as kinds
use Rattle.taskfile.specs.Records.{Record, part_byte, kind_of}
use Rattle.taskfile.specs.Sound.{Naming, Block}
use Rattle.taskfile.specs.Meaning.{first_namings, blocks_in, some_of, named_for, parts_of, costs_of, step_table}
use Rattle.taskfile.specs.Answer.{read_into}
use Rattle.taskfile.specs.Workers.{RoomFor}
use Rattle.taskfile.proofs.Records.{kind_of_byte}
use Rattle.taskfile.proofs.Checked.{length_costs}

-- ---- the facts named

either_none : (p : Bool) → either p false ≡ p
unfolding either
either_none true = refl
either_none false = refl

either_assoc : (p q r : Bool) → either (either p q) r ≡ either p (either q r)
unfolding either
either_assoc true q r = refl
either_assoc false q r = refl

-- a part is told by its byte
same_part : (own part : Part) → part_byte own ≡ part_byte part → own ≡ part
same_part own part e = let same_kind = sym (kind_of_byte (kinds.Names own)) ∙ ap kind_of e ∙ kind_of_byte (kinds.Names part) in cc

-- one more fact named, for the part asked for or for another
named_own : (part own : Part) (f : ℕ) (rest : List Naming) (g : ℕ) → own ≡ part
    → named_for part (record { part = own; fact = f } ∷ rest) g ≡ either (same g f) (named_for part rest g)
unfolding named_for some_of both
named_own part own f rest g e =
    ap (λ (p : Bool). either (both p (same f g)) (named_for part rest g)) (same_true (part_byte own) (part_byte part) (ap part_byte e))
    ∙ ap (λ (p : Bool). either p (named_for part rest g)) (same_iff f g g f sym sym)

named_other : (part own : Part) (f : ℕ) (rest : List Naming) (g : ℕ) → ¬ (own ≡ part)
    → named_for part (record { part = own; fact = f } ∷ rest) g ≡ named_for part rest g
unfolding named_for some_of both either
named_other part own f rest g e =
    ap (λ (p : Bool). either (both p (same f g)) (named_for part rest g)) (same_false (part_byte own) (part_byte part) (λ b. e (same_part own part b)))

module _ (part : Part) (all : List Record) where
  -- before each record: the facts found, and those named from there on
  pub record Gathered (words : List ℕ) (left : List Record) : Type 0 where
    pub made : words ≡ words_of 4 (has words)
    pub asked : (f : ℕ) → f < 4 * 64 → either (has words f) (named_for part (first_namings left) f) ≡ named_for part (first_namings all) f

  pub gather_start : {words : List ℕ} {left : List Record} → words ≡ words_of 4 none → left ≡ all → Gathered words left
  unfolding none either
  gather_start {words} {left} e is = record {
    made = whole_made 4 words none e;
    asked = λ f l.
        ap (λ (p : Bool). either p (named_for part (first_namings left) f)) (has_made 4 words none e f l)
        ∙ ap (λ (rs : List Record). named_for part (first_namings rs) f) is;
  }

  module _ {words : List ℕ} {left rest : List Record} (own : Part) (fact : ℕ) (v : Gathered words left) (is : left ≡ Names own fact ∷ rest) where
    here : (f : ℕ) → f < 4 * 64
        → either (has words f) (named_for part (record { part = own; fact = fact } ∷ first_namings rest) f) ≡ named_for part (first_namings all) f
    unfolding first_namings
    here f l = ap (λ (rs : List Record). either (has words f) (named_for part (first_namings rs) f)) (sym is) ∙ v.asked f l

    pub gather_own : own ≡ part → {more : List ℕ} → more ≡ words_of 4 (added (has words) fact) → Gathered more rest
    unfolding added
    gather_own k {more} e = record {
      made = whole_made 4 more _ e;
      asked = λ f l.
          ap (λ (p : Bool). either p (named_for part (first_namings rest) f)) (has_made 4 more _ e f l)
          ∙ either_assoc (has words f) (same f fact) (named_for part (first_namings rest) f)
          ∙ ap (either (has words f)) (sym (named_own part own fact (first_namings rest) f k))
          ∙ here f l;
    }

    pub gather_other : ¬ (own ≡ part) → Gathered words rest
    gather_other k = record {
      made = v.made;
      asked = λ f l. ap (either (has words f)) (sym (named_other part own fact (first_namings rest) f k)) ∙ here f l;
    }

  gather_none : {words : List ℕ} {left : List Record} → Gathered words left → first_namings left ≡ [] → words ≡ words_of 4 (named_for part (first_namings all))
  unfolding named_for some_of
  gather_none {words} v none_left =
      v.made
      ∙ words_of_same 4 (has words) _ (λ f l.
      sym (either_none (has words f)) ∙ ap (λ (gs : List Naming). either (has words f) (named_for part gs f)) (sym none_left) ∙ v.asked f l)

  -- no record is left
  pub gather_end : {words : List ℕ} {left : List Record} → Gathered words left → left ≡ [] → words ≡ words_of 4 (named_for part (first_namings all))
  unfolding first_namings
  gather_end v e = gather_none v (ap first_namings e)

  -- or the next one names no fact
  pub gather_over : {words : List ℕ} {left rest : List Record} (r : Record) → Gathered words left → left ≡ r ∷ rest → ((own : Part) (fact : ℕ) → ¬ (r ≡ Names own fact))
      → words ≡ words_of 4 (named_for part (first_namings all))
  unfolding first_namings
  gather_over {rest = rest} r v e other = gather_none v (ap first_namings e ∙ from r other)
    where
      from : (r : Record) → ((own : Part) (fact : ℕ) → ¬ (r ≡ Names own fact)) → first_namings (r ∷ rest) ≡ []
      from End h = refl
      from (Head n m) h = refl
      from (Step cost) h = refl
      from (Names own fact) h = absurd (h own fact refl)

-- ---- the steps

-- the sets of the steps, as the facts named for a part of them are
abbrev pub step_sets : Part → List Block → ℕ → Set
step_sets part blocks s = named_for part (parts_of blocks s)

-- the step of a number, where the steps from it on begin with one
record Next (blocks : List Block) (step : ℕ) (b : Block) (rest : List Block) : Type 0 where
  inside : step < length blocks
  parts : parts_of blocks step ≡ b.parts
  cost : get_or (costs_of blocks) step 0 ≡ b.cost
  after : drop (suc step) blocks ≡ rest

next_is : (blocks : List Block) (step : ℕ) (b : Block) (rest : List Block) → drop step blocks ≡ b ∷ rest → Next blocks step b rest
unfolding parts_of costs_of
next_is [] step b rest e = let none_left : b ∷ rest ≡ [] = sym e ∙ drop-nil step in let z : ◌≡◌ {A = ℕ} 0 1 = cc in absurd (omega arith)
next_is (a ∷ bs) zero b rest e =
    let first : a ≡ b = cc in record { inside = omega arith; parts = ap (λ (x : Block). x.parts) first; cost = ap (λ (x : Block). x.cost) first; after = cc }
next_is (a ∷ bs) (suc s) b rest e =
    let n = next_is bs s b rest e in record { inside = omega (arith, n.inside); parts = n.parts; cost = n.cost; after = n.after }

none_from : (blocks : List Block) (step : ℕ) → drop step blocks ≡ [] → length blocks ≤ step
none_from blocks step e = omega (arith, ap length e, length-drop step blocks)

module _ (all : List Record) (needs₀ sets₀ clears₀ costs₀ : List ℕ) where
  abbrev steps : List Block
  steps = blocks_in all

  -- before each record: so many steps are written, and the others come from there on
  pub record Filling (needs sets clears costs : List ℕ) (step : ℕ) (left : List Record) : Type 0 where
    pub left_steps : blocks_in left ≡ drop step steps
    pub most : step ≤ length steps
    pub need_rows : Written (step_sets Needs steps) needs₀ needs step
    pub set_rows : Written (step_sets Sets steps) sets₀ sets step
    pub clear_rows : Written (step_sets Clears steps) clears₀ clears step
    pub cost_list : Overwritten (costs_of steps) costs₀ costs 0 step

  module _ {needs sets clears costs : List ℕ} {step : ℕ} {left rest : List Record} (v : Filling needs sets clears costs step left) where
    -- a record that begins no step
    pub fill_skip : (r : Record) → left ≡ r ∷ rest → ((cost : ℕ) → ¬ (r ≡ Step cost)) → Filling needs sets clears costs step rest
    unfolding blocks_in
    fill_skip r e other = record {
      left_steps = sym (ap blocks_in e ∙ from r other) ∙ v.left_steps;
      most = v.most;
      need_rows = v.need_rows;
      set_rows = v.set_rows;
      clear_rows = v.clear_rows;
      cost_list = v.cost_list;
    }
      where
        from : (r : Record) → ((cost : ℕ) → ¬ (r ≡ Step cost)) → blocks_in (r ∷ rest) ≡ blocks_in rest
        from End h = refl
        from (Head n m) h = refl
        from (Names part f) h = refl
        from (Step cost) h = absurd (h cost refl)

    module _ (cost : ℕ) (is : left ≡ Step cost ∷ rest) where
      next : Next steps step (record { cost = cost; parts = first_namings rest }) (blocks_in rest)
      unfolding blocks_in
      next = next_is steps step _ _ (sym v.left_steps ∙ ap blocks_in is)

      pub step_inside : RoomFor steps needs₀ sets₀ clears₀ costs₀ → step < length costs
      step_inside room = omega (arith, next.inside, room.cost_list, v.cost_list.long)

      row_next : (part : Part) (first rows : List ℕ) {words after : List ℕ} → length steps * 4 ≤ length first → Written (step_sets part steps) first rows step
          → words ≡ words_of 4 (named_for part (first_namings rest)) → after ≡ with_row 4 step words rows → Written (step_sets part steps) first after (step + 1)
      row_next part first rows room w s a =
          write_next _ first rows step (length steps) room next.inside w (s ∙ ap (λ (gs : List Naming). words_of 4 (named_for part gs)) (sym next.parts)) a

      -- a step, when its three rows and its cost are written
      pub fill_next : RoomFor steps needs₀ sets₀ clears₀ costs₀ → {need set clear needs' sets' clears' : List ℕ}
          → need ≡ words_of 4 (named_for Needs (first_namings rest)) → needs' ≡ with_row 4 step need needs
          → set ≡ words_of 4 (named_for Sets (first_namings rest)) → sets' ≡ with_row 4 step set sets
          → clear ≡ words_of 4 (named_for Clears (first_namings rest)) → clears' ≡ with_row 4 step clear clears
          → Filling needs' sets' clears' (list_set costs step cost) (step + 1) rest
      fill_next room n n' s s' c c' = record {
        left_steps = sym next.after ∙ ap (λ (k : ℕ). drop k steps) (sym (add-one step));
        most = omega (arith, next.inside);
        need_rows = row_next Needs needs₀ needs room.need_rows v.need_rows n n';
        set_rows = row_next Sets sets₀ sets room.set_rows v.set_rows s s';
        clear_rows = row_next Clears clears₀ clears room.clear_rows v.clear_rows c c';
        cost_list =
            rw (ap₂ (λ (i x : ℕ). list_set costs i x) (zero-add step) next.cost) at
            (overwrite_next (costs_of steps) costs₀ costs 0 step (omega (arith, room.cost_list, length_costs steps)) (omega (arith, next.inside, length_costs steps))
            v.cost_list);
      }

  -- no step is left
  module _ {needs sets clears costs : List ℕ} {step : ℕ} {left : List Record} (v : Filling needs sets clears costs step left) (none_left : left ≡ []) where
    all_steps : length steps ≤ step
    unfolding blocks_in
    all_steps = none_from steps step (sym v.left_steps ∙ ap blocks_in none_left)

    rows_end : (part : Part) (first rows : List ℕ) → Written (step_sets part steps) first rows step → rows ≡ read_into (Ok tt) (step_table part steps) first
    unfolding read_into step_table
    rows_end part first rows w =
        write_end _ first rows step (length steps) v.most all_steps w
        ∙ ap (λ (n : ℕ). step_table part steps ++ drop n first) (sym (length_table_of 4 (length steps) (step_sets part steps)))

    costs_end : costs ≡ read_into (Ok tt) (costs_of steps) costs₀
    unfolding read_into
    costs_end =
        let e : step ≡ length (costs_of steps) = omega (arith, all_steps, v.most, length_costs steps) in
        v.cost_list.part
        ∙ ap₂ (λ (l : List ℕ) (n : ℕ). l ++ drop n costs₀) (take_all step (costs_of steps) (omega arith)) (zero-add step ∙ e)

    -- the tables of all steps
    pub record Filled : Type 0 where
      pub needs_read : needs ≡ read_into (Ok tt) (step_table Needs steps) needs₀
      pub sets_read : sets ≡ read_into (Ok tt) (step_table Sets steps) sets₀
      pub clears_read : clears ≡ read_into (Ok tt) (step_table Clears steps) clears₀
      pub costs_read : costs ≡ read_into (Ok tt) (costs_of steps) costs₀

    pub fill_end : Filled
    fill_end = record {
      needs_read = rows_end Needs needs₀ needs v.need_rows;
      sets_read = rows_end Sets sets₀ sets v.set_rows;
      clears_read = rows_end Clears clears₀ clears v.clear_rows;
      costs_read = costs_end;
    }
