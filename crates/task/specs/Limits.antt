-- The limits of document 01, each named once. `Task::limits` is proved to give them, so that they are the constants of `Task`.
use Rattle.task.specs.declared.task.Limits.{Limits}

abbrev pub limits : Limits
limits = record { facts = 256; steps = 1024; cost = 65535; walk = 65535; mark = 4294967295 }
