-- A task as its caller lends it, as the tables of numbers that the definitions speak of.
use Rattle.task.specs.declared.tables.Tables.{Tables as LentTables}
use Rattle.task.specs.Tables.{Tables, tables}

abbrev pub lent : LentTables → Tables
lent t = tables t.sizes.facts t.sizes.steps t.needs.now t.sets.now t.clears.now t.costs.now t.start.now t.goal.now
