use Rattle.std.proofs.Common.{ℕ, List, ◌≡◌, ◌+◌, ◌-◌, ◌++◌, length, take, drop, ap, ◌∙◌, arith}
use Rattle.journal_records.proofs.Streams.{room_length, room_filled}
use Rattle.journal_records.proofs.output.finish.Goals as goal

pub overflow_sub-length-2 : goal.overflow_sub-length-2
overflow_sub-length-2 c = omega (arith, c.len.ensures, room_length c.requires.0 c.args.writer.now c.requires.1 c.args.begun c.requires.2 c.requires.3)

pub returns-then-length-gt-RECORD_BYTES-clause-too_long : goal.returns-then-length-gt-RECORD_BYTES-clause-too_long
returns-then-length-gt-RECORD_BYTES-clause-too_long c = λ long before found begins is short.
    absurd (omega (arith, c.len.ensures, room_length before c.args.writer.now found c.args.begun begins is, short, c.if-length-gt-RECORD_BYTES.true))

pub replace_word-requires : goal.replace_word-requires
replace_word-requires c = omega (arith, room_length c.requires.0 c.args.writer.now c.requires.1 c.args.begun c.requires.2 c.requires.3)

pub returns-clause-record : goal.returns-clause-record
returns-clause-record c = λ before found begins is.
    let long = room_length before c.args.writer.now found c.args.begun begins is in (
      omega (arith, c.len.ensures, long, c.if-length-gt-RECORD_BYTES.false),
      room_filled before c.args.writer.now found c.replace_word.new.self c.args.begun _ begins is (omega (arith, c.len.ensures, long)) c.replace_word.ensures,
    )
