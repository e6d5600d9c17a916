-- A moment of a clock, as the definitions have it.
use Rattle.journal_world.specs.declared.moment.Moment.{Moment}
use Rattle.journal_inode.specs.declared.node.Time.{Time}

abbrev pub time_of : Moment → Time
time_of now = record { secs = now.secs; nanos = now.nanos }
