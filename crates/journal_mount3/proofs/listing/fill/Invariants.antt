use Rattle.std.proofs.Common.{◌≤◌, ◌<◌, min, map}
use Rattle.std.specs.List.{All}
use Rattle.journal_mount3.specs.CodeViews.{listed_of}
use Rattle.journal_mount3.proofs.Filling.{Filling}
use Rattle.journal_mount3.proofs.listing.fill.Given as goal

abbrev pub invariant-loop-next : goal.invariant-loop-next
invariant-loop-next g l = record {
  filling : Filling g.V.Version.VERSION l.cookie l.directory l.room l.fn.session l.session l.next (map (λ e. listed_of (g.E.Shown.entry_in e)) l.entries.items);
  behind : min l.cookie 512 < l.next;
  few : l.next ≤ 513;
  shown : All (g.E.Shown.shows g.V.Version.VERSION) l.entries.items;
}
