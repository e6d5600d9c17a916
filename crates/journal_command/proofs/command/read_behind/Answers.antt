use Rattle.journal_command.proofs.Behind.{no_choice-down, no_choice-crash, no_choice-lose}
use Rattle.journal_command.proofs.command.read_behind.Goals as goal

pub returns-in_err-read_choice-in-Down-clause-none : goal.returns-in_err-read_choice-in-Down-clause-none
returns-in_err-read_choice-in-Down-clause-none c =
    rw (c.from_residual-in_err-read_choice-in-Down.ensures, c.in-Down.is) (no_choice-down _ c.in_err-read_choice-in-Down.ensures.none)

pub returns-in_err-read_choice-in-Crash-clause-none : goal.returns-in_err-read_choice-in-Crash-clause-none
returns-in_err-read_choice-in-Crash-clause-none c =
    rw (c.from_residual-in_err-read_choice-in-Crash.ensures, c.in-Crash.is) (no_choice-crash _ c.in_err-read_choice-in-Crash.ensures.none)

pub returns-in_err-read_choice-in-Lose-clause-none : goal.returns-in_err-read_choice-in-Lose-clause-none
returns-in_err-read_choice-in-Lose-clause-none c =
    rw (c.from_residual-in_err-read_choice-in-Lose.ensures, c.in-Lose.is) (no_choice-lose _ c.in_err-read_choice-in-Lose.ensures.none)

pub returns-in-Put-clause-none : goal.returns-in-Put-clause-none
returns-in-Put-clause-none c = rw c.in-Put.is c.read_put.ensures.none

pub returns-in-Get-clause-none : goal.returns-in-Get-clause-none
returns-in-Get-clause-none c = rw c.in-Get.is c.read_get.ensures.none

pub returns-in-Disk-clause-none : goal.returns-in-Disk-clause-none
returns-in-Disk-clause-none c = rw c.in-Disk.is c.read_disk.ensures.none

pub returns-in-Fail-clause-none : goal.returns-in-Fail-clause-none
returns-in-Fail-clause-none c = rw c.in-Fail.is c.read_fail.ensures.none

pub returns-in-Poke-clause-none : goal.returns-in-Poke-clause-none
returns-in-Poke-clause-none c = rw c.in-Poke.is c.read_poke.ensures.none
