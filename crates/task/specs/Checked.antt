-- What is known of tables that nothing is wrong with.
use Rattle.std.specs.Prelude.{◌≡◌, ℕ, ◌*◌, ◌<◌, ◌≤◌, length}
use Rattle.sets.specs.Tests.{Is}
use Rattle.task.specs.Tables.{Tables, view}

pub record Checked (t : Tables) : Type 0 where
  pub some_facts : 0 < t.facts
  pub few_facts : t.facts ≤ 256
  pub few_steps : t.steps ≤ 1024
  pub needs_length : length t.needs ≡ 4 * t.steps
  pub sets_length : length t.sets ≡ 4 * t.steps
  pub clears_length : length t.clears ≡ 4 * t.steps
  pub costs_length : length t.costs ≡ t.steps
  pub start_length : length t.start ≡ 4
  pub goal_length : length t.goal ≡ 4
  -- no set holds a fact past the last
  pub needs_facts : (s f : ℕ) → Is ((view t).needs s f) → f < t.facts
  pub sets_facts : (s f : ℕ) → Is ((view t).sets s f) → f < t.facts
  pub clears_facts : (s f : ℕ) → Is ((view t).clears s f) → f < t.facts
  pub start_facts : (f : ℕ) → Is ((view t).start f) → f < t.facts
  pub goal_facts : (f : ℕ) → Is ((view t).goal f) → f < t.facts
  pub costs_most : (s : ℕ) → (view t).cost s ≤ 65535
