-- The tables that the cuts are written into stay where they are.
use Rattle.std.specs.Prelude.{◌≡◌}
use Rattle.cuts.specs.declared.tables.CutTables.{CutTables}

pub record KeepsPlaces (old new : CutTables) : Type 0 where
  pub rows : new.rows.ghost_name ≡ old.rows.ghost_name
  pub prices : new.prices.ghost_name ≡ old.prices.ghost_name
