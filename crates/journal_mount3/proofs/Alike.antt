-- What is seen of a directory is the same, however it is said what fits.
use Rattle.std.proofs.Common.{ℕ, Bool, true, false, List, [], Result, Ok, Err, inl, inr}
use Rattle.std.specs.Prelude.{◌==◌, MatchBool}
use Rattle.journal_history.specs.Tokens.{SessionState}
use Rattle.journal_inode.specs.declared.node.Time.{Time}
use Rattle.journal_inode.specs.declared.version.FormatVersion.{FormatVersion}
use Rattle.journal_file_types.specs.declared.reply.Attributes.{Attributes}
use Rattle.journal_nfs3_wire.specs.declared.results.NfsError.{NfsError}
use Rattle.journal_mount3.specs.Listings.{Listed, IsLongestFront, IsPage, Seen, SeesPage}
use Rattle.journal_mount3.specs.Served.{Lists}
use Rattle.journal_mount3.specs.Roots.{attributes_at}

module _ (F G : List Listed → Type 0) (same : (es : List Listed) → (F es → G es) × (G es → F es)) where
  longest_so : (front all : List Listed) → IsLongestFront F front all → IsLongestFront G front all
  longest_so front all h = record { is = h.is; fits = (same front).0 h.fits; most = λ longer q fits. h.most longer q ((same longer).1 fits) }

  module _ (version : FormatVersion) (cookie : ℕ) where
    page_so : (root : Attributes) (old new : SessionState) (page : List Listed) (is_end : Bool) → IsPage version cookie F root old new page is_end → IsPage version cookie G root old new page is_end
    page_so root old new page is_end h = record { all = h.all; is_last = h.is_last; learned = h.learned; longest = longest_so page h.all h.longest; more = h.more; no_more = h.no_more }

    sees_so : (root : Attributes) (old new : SessionState) (outcome : Result Seen NfsError) → SeesPage version cookie F root old new outcome → SeesPage version cookie G root old new outcome
    sees_so root old new (Ok seen) h = (page_so root old new seen.page seen.is_end h.0, h.1)
    sees_so root old new (Err why) (inl h) = inl (h.0, (λ g. h.1 ((same []).1 g)), h.2)
    sees_so root old new (Err why) (inr (inl h)) = inr (inl (h.0, page_so root old new [] false h.1))
    sees_so root old new (Err why) (inr (inr h)) = inr (inr h)

    either_so : (b : Bool) (P Q R : Type 0) → MatchBool b P R → (P → Q) → MatchBool b Q R
    either_so true P Q R h so = so h
    either_so false P Q R h so = h

    pub lists_so : (now : Time) (told : Result Attributes NfsError) (old new : SessionState) (outcome : Result Seen NfsError) → Lists version now cookie F told old new outcome → Lists version now cookie G told old new outcome
    lists_so now (Err why) old new outcome h = h
    lists_so now (Ok a) old new outcome h = either_so (a.number == 1) _ _ _ h (λ s. sees_so (attributes_at now a) old new outcome s)
