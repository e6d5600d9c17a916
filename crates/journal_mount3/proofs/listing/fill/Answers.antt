use Rattle.std.proofs.Common.{◌≡◌, ◌<◌, ◌+◌, ◌++◌, ◌∷◌, [], not, true, is_ok, length, map, sym, ap, subst, ◌∙◌, arith}
use Rattle.std.specs.List.{All}
use Rattle.std.proofs.lemmas.List.{length-map}
use Rattle.std.proofs.lemmas.List.Elements.{All-nil, All-push}
use Rattle.std.proofs.lemmas.Result.{err_from_is_err_and}
use Rattle.journal_inode.specs.declared.version.FormatVersion.{FormatVersion}
use Rattle.journal_mount3.specs.CodeViews.{listed_of}
use Rattle.journal_mount3.proofs.Filling.{Filling, begins, goes_on_without, goes_on_with, is_full, is_cut, is_lost, ends, pushed}
use Rattle.journal_mount3.proofs.listing.fill.Goals as goal

pub loop-next-init : goal.loop-next-init
loop-next-init g c = record {
  filling = begins g.V.Version.VERSION c.args.cookie c.args.directory.now c.args.room c.args.session.now _ _ (omega (arith, c.min-next.ensures)) (ap (map (λ e. listed_of (g.E.Shown.entry_in e))) c.requires);
  behind = omega (arith, c.min-next.ensures);
  few = omega (arith, c.min-next.ensures);
  shown = subst (All (g.E.Shown.shows g.V.Version.VERSION)) (sym c.requires) (All-nil (g.E.Shown.shows g.V.Version.VERSION));
}

pub loop-next-preserved-in_default : goal.loop-next-preserved-in_default
loop-next-preserved-in_default g c =
    let all = c.loop-next.invariant in
    let above : c.args.cookie < c.loop-next.next = omega (arith, all.behind, c.loop-next-test.true) in
    record {
      filling = goes_on_without g.V.Version.VERSION c.args.cookie c.args.directory.now c.args.room c.args.session.now c.loop-next.session c.find_entry.new.session c.loop-next.next _ above all.filling listed_of (rw c.in_default.is at c.in_ok-entry.ensures);
      behind = omega (arith, all.behind);
      few = omega (arith, c.loop-next-test.true);
      shown = all.shown;
    }

pub loop-next-preserved : goal.loop-next-preserved
loop-next-preserved g c =
    let all = c.loop-next.invariant in
    let items = c.loop-next.entries.items in
    let above : c.args.cookie < c.loop-next.next = omega (arith, all.behind, c.loop-next-test.true) in
    let place : length (map (λ e. listed_of (g.E.Shown.entry_in e)) items) < c.args.room = omega (arith, c.if-len-room.false, c.len.ensures, c.loop-next.entries.ok.0, length-map items (λ e. listed_of (g.E.Shown.entry_in e))) in
    let ok : is_ok c.push.result ≡ true = c.is_err.ensures.negation ∙ ap not c.if-is_err.false in
    let new_is : c.push.new.self.items ≡ items ++ c.show.result ∷ [] = rw ok at c.push.ensures.items in
    let more = goes_on_with g.V.Version.VERSION c.args.cookie c.args.directory.now c.args.room c.args.session.now c.loop-next.session c.find_entry.new.session c.loop-next.next _ above all.filling listed_of c.in-Some.entry (rw c.in-Some.is at c.in_ok-entry.ensures) place in
    record {
      filling =
          subst (Filling g.V.Version.VERSION c.args.cookie c.args.directory.now c.args.room c.args.session.now c.find_entry.new.session (c.loop-next.next + 1))
          (sym (pushed (λ e. listed_of (g.E.Shown.entry_in e)) items _ c.show.result _ new_is (ap listed_of c.show.ensures.entry))) more;
      behind = omega (arith, all.behind);
      few = omega (arith, c.loop-next-test.true);
      shown = subst (All (g.E.Shown.shows g.V.Version.VERSION)) (sym new_is)
          (All-push (g.E.Shown.shows g.V.Version.VERSION) items c.show.result all.shown (subst (λ (v : FormatVersion). g.E.Shown.shows v c.show.result) c.version.ensures c.show.ensures.version));
    }

pub returns-in_err-entry-clause-fills : goal.returns-in_err-entry-clause-fills
returns-in_err-entry-clause-fills g c =
    let all = c.loop-next.invariant in
    let above : c.args.cookie < c.loop-next.next = omega (arith, all.behind, c.loop-next-test.true) in
    let p = err_from_is_err_and c.from_residual.result c.from_residual.ensures.1 in rw (p.1, p.2)
    (is_cut g.V.Version.VERSION c.args.cookie c.args.directory.now c.args.room c.args.session.now c.loop-next.session c.find_entry.new.session c.loop-next.next _ above all.filling listed_of c.in_err-entry.field-0.0 c.in_err-entry.ensures)

pub returns-then-len-room-clause-fills : goal.returns-then-len-room-clause-fills
returns-then-len-room-clause-fills g c =
    let all = c.loop-next.invariant in
    let above : c.args.cookie < c.loop-next.next = omega (arith, all.behind, c.loop-next-test.true) in
    is_full g.V.Version.VERSION c.args.cookie c.args.directory.now c.args.room c.args.session.now c.loop-next.session c.find_entry.new.session c.loop-next.next _ above all.filling listed_of c.in-Some.entry (rw c.in-Some.is at c.in_ok-entry.ensures)
    (omega (arith, c.if-len-room.true, c.len.ensures, c.loop-next.entries.ok.0, length-map c.loop-next.entries.items (λ e. listed_of (g.E.Shown.entry_in e))))

pub returns-then-is_err-clause-fills : goal.returns-then-is_err-clause-fills
returns-then-is_err-clause-fills g c =
    let all = c.loop-next.invariant in
    let above : c.args.cookie < c.loop-next.next = omega (arith, all.behind, c.loop-next-test.true) in
    is_lost g.V.Version.VERSION c.args.cookie c.args.directory.now c.args.room c.args.session.now c.loop-next.session c.find_entry.new.session c.loop-next.next _ above all.filling listed_of c.in-Some.entry (rw c.in-Some.is at c.in_ok-entry.ensures)

pub returns-clause-fills : goal.returns-clause-fills
returns-clause-fills g c =
    ends g.V.Version.VERSION c.args.cookie c.args.directory.now c.args.room c.args.session.now c.loop-next.session c.loop-next.next _ (omega (arith, c.loop-next-test.false)) c.loop-next.invariant.filling
