-- An object log after reads, whatever order they come in and whatever asks for them.
use Rattle.std.specs.Prelude.{ℕ, ◌≡◌, false, IsTrue, []}
use Rattle.journal_block.specs.Block.{Bytes}
use Rattle.journal_wal.specs.Wal.{WalState, blocks_now, log_blocks, install_none}
use Rattle.journal_objlog.specs.ObjectLogs.{KeepsMaps, Crashes, OnlyReads, disk_of}

-- The log was only read since this state of it
pub record OnlyReadSince (opened now : WalState) : Type 0 where
  pub only : OnlyReads opened now
  pub maps : IsTrue (disk_of opened).honest → KeepsMaps opened now
  pub crash : Crashes opened now

-- the bytes are those that the log has for the block
abbrev pub IsBlockOf : WalState → Bytes → ℕ → Type 0
IsBlockOf w bytes block = IsTrue (disk_of w).honest → bytes ≡ blocks_now w block

-- the log of no disk
abbrev pub no_log : WalState
no_log = record {
  ring = record {
    disk = record { past = record { size = 0; first = []; device = []; events = [] }; honest = false; failures = 0 };
    header = [];
    tags = [];
    label = [];
    sealed = false;
    extent = record { start = 0; freed = 0; end = 0; coming = 0; stable = 0; homes = false };
    next = 0;
    faulted = false;
  };
  log = record { blocks = 0; start = 0; logged = 0; cut = 0; updates = []; room = 0 };
  logging = log_blocks;
  installing = install_none;
}
