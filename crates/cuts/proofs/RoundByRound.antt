-- What a loop over the rounds keeps: all rounds are those made so far and those that come from the present costs. There is room for each more, because each
-- frees a step that is on and cost something.
use Prim.Native.Nat.{ℕ, zero, suc, ◌+◌, ◌≤◌, ◌<◌}
use mathlib.Core.Path.{◌≡◌, refl, sym, ap, ◌∙◌}
use mathlib.Core.Bool.{true, false}
use mathlib.Core.List.{List, [], ◌∷◌, ◌++◌, append-nil}
use native.Mathlib.Omega.{arith}
use lib.ListN.{length, length-append}
use lib.Seq.{append_snoc}
use Rattle.sets.specs.Tests.{Is}
use Rattle.sets.proofs.Tests.{below_true, below_false}
use Rattle.sets.proofs.Sets.{count_most}
use Rattle.task.specs.Task.{Task}
use Rattle.task.specs.Walks.{goal_holds}
use Rattle.reach.specs.Reach.{reach}
use Rattle.distance.specs.Distance.{entry, goal_distance}
use Rattle.distance.proofs.Lists.{length_list}
use Rattle.cuts.specs.Cut.{Choice, ChoosesFarthest}
use Rattle.cuts.specs.Rounds.{Round, given_costs, goal_away, lowered, round_of, rounds_from, all_rounds, floor_of}
use Rattle.cuts.proofs.Round.{dear_steps, lowered_size, lowered_less, round_dear_fewer}
use Rattle.cuts.proofs.Rounds.{Cheap, given_is}

-- the floor of rounds and more rounds
pub floor_append : (rs more : List Round) → floor_of (rs ++ more) ≡ floor_of rs + floor_of more
unfolding floor_of
floor_append [] more = omega arith
floor_append (r ∷ rs) more = omega (arith, floor_append rs more)

-- after the rounds `done` the present costs are `costs`
pub record Cutting (choose : Choice) (mark : ℕ) (t : Task) (done : List Round) (costs : List ℕ) : Type 0 where
  -- how many more rounds there is room for
  pub room : ℕ
  pub room_is : length done + room ≡ t.steps
  pub enough : dear_steps t (entry costs) ≤ room
  pub list : (all_rounds choose mark t).list ≡ done ++ (rounds_from choose mark t room (goal_away mark t costs) costs).list
  pub left : (all_rounds choose mark t).left ≡ (rounds_from choose mark t room (goal_away mark t costs) costs).left
  pub size : length costs ≡ t.steps
  pub cheap : Cheap mark t (entry costs)

module _ (choose : Choice) (mark : ℕ) (t : Task) where
  -- it begins with no round and the given costs
  pub cutting_start : Cheap mark t t.cost → Cutting choose mark t [] (given_costs t)
  unfolding all_rounds given_costs
  cutting_start cheap =
      record {
        room = t.steps;
        room_is = omega arith;
        enough = count_most t.steps _;
        list = refl;
        left = refl;
        size = length_list t.steps t.cost;
        cheap = λ s l. omega (arith, cheap s l, given_is t s l);
      }

  -- it ends where the goal's distance is 0: these are all rounds, and these the costs left
  pub cutting_stop : (done : List Round) (costs : List ℕ) → Cutting choose mark t done costs → goal_distance t (entry costs) mark ≡ 0
      → ((all_rounds choose mark t).list ≡ done) × ((all_rounds choose mark t).left ≡ costs)
  unfolding rounds_from goal_away
  cutting_stop done costs r h =
      let stop = below_false 0 (goal_distance t (entry costs) mark) (omega arith) in
      go r.room (rw stop at r.list) (rw stop at r.left)
    where
      go : (k : ℕ) → (all_rounds choose mark t).list ≡ done ++ (rounds_from choose mark t k false costs).list
          → (all_rounds choose mark t).left ≡ (rounds_from choose mark t k false costs).left → ((all_rounds choose mark t).list ≡ done) × ((all_rounds choose mark t).left ≡ costs)
      go zero p q = (p ∙ append-nil done, q)
      go (suc k) p q = (p ∙ append-nil done, q)

  -- what was made so far is no more than all
  pub cutting_floor : (done : List Round) (costs : List ℕ) → Cutting choose mark t done costs → floor_of done ≤ floor_of (all_rounds choose mark t).list
  cutting_floor done costs r =
      omega (arith, ap floor_of r.list, floor_append done (rounds_from choose mark t r.room (goal_away mark t costs) costs).list)

module _ (choose : Choice) (right : ChoosesFarthest choose) (mark : ℕ) (t : Task) (some_way : Is (goal_holds t (reach t))) where
  module _ (done : List Round) (costs : List ℕ) (r : Cutting choose mark t done costs) (away : 0 < goal_distance t (entry costs) mark) where
    -- while the goal's distance is above 0, there is room for one round more
    pub cutting_room : length done < t.steps
    cutting_room = omega (arith, r.room_is, r.enough, round_dear_fewer choose right mark t costs away some_way r.cheap)

    -- and it is made
    pub cutting_next : Cutting choose mark t (done ++ round_of choose mark t costs ∷ []) (lowered t (round_of choose mark t costs) costs)
    unfolding rounds_from goal_away
    cutting_next =
        let go_on = below_true 0 (goal_distance t (entry costs) mark) away in
        go r.room r.room_is r.enough (rw go_on at r.list) (rw go_on at r.left)
      where
        round : Round
        round = round_of choose mark t costs

        next : List ℕ
        next = lowered t round costs

        go : (k : ℕ) → length done + k ≡ t.steps → dear_steps t (entry costs) ≤ k
            → (all_rounds choose mark t).list ≡ done ++ (rounds_from choose mark t k true costs).list
            → (all_rounds choose mark t).left ≡ (rounds_from choose mark t k true costs).left → Cutting choose mark t (done ++ round ∷ []) next
        go zero e l p q = absurd (omega (arith, round_dear_fewer choose right mark t costs away some_way r.cheap))
        go (suc k) e l p q =
            record {
              room = k;
              room_is = omega (arith, length-append done (round ∷ []));
              enough = omega (arith, round_dear_fewer choose right mark t costs away some_way r.cheap);
              list = p ∙ sym (append_snoc done round (rounds_from choose mark t k (goal_away mark t next) next).list);
              left = q;
              size = lowered_size t round costs;
              cheap = λ s l. omega (arith, r.cheap s l, lowered_less t round costs s);
            }
