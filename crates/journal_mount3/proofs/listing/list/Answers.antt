use Rattle.std.proofs.Common.{Err, map, refl, arith, vec_len}
use Rattle.std.proofs.lemmas.Result.{err_from_is_err_and}
use Rattle.journal_mount3.specs.CodeViews.{listed_of, HasRoom}
use Rattle.journal_mount3.proofs.Seeing.{list_of_file, list_none, list_no_memory, list_cut, list_small, list_page, none_shown, page_there}
use Rattle.journal_mount3.proofs.listing.list.Goals as goal

pub returns-in_err-directory-clause-lists : goal.returns-in_err-directory-clause-lists
returns-in_err-directory-clause-lists g c = let p = err_from_is_err_and c.from_residual.result c.from_residual.ensures.1 in rw (p.1, p.2) (Err c.in_err-directory.field-0.0, c.get_attributes.new.session, c.in_err-directory.ensures, (refl, refl))

pub returns-then-directory-ne-ROOT-clause-lists : goal.returns-then-directory-ne-ROOT-clause-lists
returns-then-directory-ne-ROOT-clause-lists g c =
    list_of_file g.V.Version.VERSION c.args.now c.args.cookie c.args.handle.now c.in_ok-directory.directory _ _ _ (HasRoom c.args.room) c.in_ok-directory.ensures c.if-directory-ne-ROOT.true refl

pub returns-in_default-clause-lists : goal.returns-in_default-clause-lists
returns-in_default-clause-lists g c =
    list_none g.V.Version.VERSION c.args.now c.args.cookie c.args.handle.now c.in_ok-directory.directory _ _ _ _ c.args.room c.in_ok-directory.ensures c.if-directory-ne-ROOT.false c.attributes_at-directory.ensures c.in_default.is refl

pub returns-in_default-with_capacity-clause-lists : goal.returns-in_default-with_capacity-clause-lists
returns-in_default-with_capacity-clause-lists g c =
    list_no_memory g.V.Version.VERSION c.args.now c.args.cookie c.args.handle.now c.in_ok-directory.directory _ _ _ _ c.args.room c.in_ok-directory.ensures c.if-directory-ne-ROOT.false c.attributes_at-directory.ensures c.in-Some.room c.in-Some.is refl

pub returns-in_err-is_end-clause-lists : goal.returns-in_err-is_end-clause-lists
returns-in_err-is_end-clause-lists g c =
    let p = err_from_is_err_and c.from_residual-in_err-is_end.result c.from_residual-in_err-is_end.ensures.1 in rw (p.1, p.2)
    (list_cut g.V.Version.VERSION c.args.now c.args.cookie c.args.handle.now c.in_ok-directory.directory _ _ _ _ c.args.room c.in_ok-directory.ensures c.if-directory-ne-ROOT.false c.attributes_at-directory.ensures c.in-Some.room c.in-Some.is c.in_err-is_end.field-0.0
    c.in_err-is_end.ensures.fills)

pub returns-then-not-is_end-clause-lists : goal.returns-then-not-is_end-clause-lists
returns-then-not-is_end-clause-lists g c =
    list_small g.V.Version.VERSION c.args.now c.args.cookie c.args.handle.now c.in_ok-directory.directory _ _ _ _ c.args.room c.in_ok-directory.ensures c.if-directory-ne-ROOT.false c.attributes_at-directory.ensures c.in-Some.room c.in-Some.is
    (map (λ e. listed_of (g.E.Shown.entry_in e)) c.fill.new.entries.items) c.in_ok-is_end.is_end
    (none_shown (λ e. listed_of (g.E.Shown.entry_in e)) c.fill.new.entries.items (vec_len c.fill.new.entries) c.is_empty.result (omega (arith, c.fill.new.entries.ok.0)) c.is_empty.ensures c.if-is_empty.true)
    c.if-not-is_end.true c.in_ok-is_end.ensures.fills

pub returns-clause-lists : goal.returns-clause-lists
returns-clause-lists g c =
    list_page g.V.Version.VERSION c.args.now c.args.cookie c.args.handle.now c.in_ok-directory.directory _ _ _ _ c.args.room c.in_ok-directory.ensures c.if-directory-ne-ROOT.false c.attributes_at-directory.ensures c.in-Some.room c.in-Some.is
    (record { page = map (λ e. listed_of (g.E.Shown.entry_in e)) c.fill.new.entries.items; is_end = c.in_ok-is_end.is_end }) c.in_ok-is_end.ensures.fills
    (page_there (λ e. listed_of (g.E.Shown.entry_in e)) c.fill.new.entries.items (vec_len c.fill.new.entries) c.is_empty.result c.in_ok-is_end.is_end (omega (arith, c.fill.new.entries.ok.0)) c.is_empty.ensures c.else-is_empty.either)
