use Rattle.std.proofs.Common.{◌≡◌, ◌++◌, ℕ, List, OnOk, subst}
use Rattle.journal_nfs3_wire.specs.QueryResults.{entry}
use Rattle.journal_mount3.specs.Entries.{entry_plus}
use Rattle.journal_mount3.specs.CodeViews.{plain_entry_of, plus_entry_of}
use Rattle.journal_mount3.proofs.Spelling.{listing_is}
use Rattle.journal_mount3.proofs.results.QueryResults.write.Goals as goal

pub returns-in-ReadDirectory : goal.returns-in-ReadDirectory
returns-in-ReadDirectory c =
    rw c.in-ReadDirectory.is
    (subst (λ (t : List ℕ). OnOk c.write_listing.result (c.write_listing.new.writer ≡ c.args.writer.now ++ t)) (listing_is entry plain_entry_of c.in-ReadDirectory.outcome) c.write_listing.ensures)

pub returns-in-ReadDirectoryPlus : goal.returns-in-ReadDirectoryPlus
returns-in-ReadDirectoryPlus c =
    rw c.in-ReadDirectoryPlus.is
    (subst (λ (t : List ℕ). OnOk c.write_listing-in-ReadDirectoryPlus.result (c.write_listing-in-ReadDirectoryPlus.new.writer ≡ c.args.writer.now ++ t)) (listing_is entry_plus plus_entry_of c.in-ReadDirectoryPlus.outcome)
    c.write_listing-in-ReadDirectoryPlus.ensures)
