use Rattle.std.proofs.Common.{◌≡◌, ◌≤◌}
use Rattle.journal_mount3.proofs.Counting.{Counting}
use Rattle.journal_mount3.proofs.serving.count_files.Given as goal

abbrev pub invariant-loop-number : goal.invariant-loop-number
invariant-loop-number g l = record {
  counting : Counting g.V.Version.VERSION l.fn.session l.session l.number l.counted.files l.counted.used;
  attributes : l.counted.attributes ≡ l.fn.space.attributes;
  bytes : l.counted.bytes ≡ l.fn.space.bytes;
  few : l.number ≤ 512;
}
