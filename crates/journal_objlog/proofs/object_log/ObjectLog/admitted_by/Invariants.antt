use Rattle.journal_world.specs.Files.{shape}
use Rattle.journal_objlog.proofs.object_log.ObjectLog.admitted_by.Given as goal

-- the opening is the log as it comes in, and its layout
abbrev pub ghosts-read_by : goal.ghosts-read_by
ghosts-read_by g a = record { layout = shape a.layout; log = a.objects.log }
