-- What is known of a history that was seen, and of the one before its last commit.
use Rattle.std.proofs.Common.{◌≡◌, ◌≢◌, Bool, IsTrue, List, [], ◌∷◌, ◌++◌, length, Some, slice_get, take, refl, sym, ap, subst, ◌∙◌}
use Rattle.std.proofs.lemmas.List.{take_at}
use Rattle.journal_world.specs.Addresses.{Shape}
use Rattle.journal_world.specs.Maps.{Map, Transaction}
use Rattle.journal_world.specs.Histories.{Entry, Follows, IsLegal, commits, count, opened, is_trusted, after, at, latest}
use Rattle.journal_world.specs.Histories.Entry.{commit}
use Rattle.journal_world.proofs.LongerHistories.{commits-commit, opened-append, after-layout}
use Rattle.journal_world.proofs.MapsOfHistories.{is_trusted-append}
use Rattle.journal_history.specs.Soundness.{IsSound}
use Rattle.journal_twophase.specs.Journals.{IsKnown}

module _ (rule : Map → Type 0) where
  pub known : (layout : Shape) (history : List Entry) → (opened history).layout ≡ layout → IsSound rule history
      → (IsTrue (is_trusted history) → IsLegal rule history) → IsKnown rule layout history
  known layout history on_disk sound legal = record {
    on_disk = on_disk;
    ruled = λ trusted. sound.ruled trusted 0;
    legal = legal;
    sound = sound;
  }

  -- a commit does not stand first
  pub some_before : (found : List Entry) (t : Transaction) → IsSound rule (found ++ commit t ∷ [])
      → slice_get (found ++ commit t ∷ []) (length found) ≡ Some (commit t) → found ≢ []
  some_before found t sound stands =
      (subst (λ (before : List Entry). Follows before (commit t)) (take_at found (commit t ∷ []) (length found) refl) (sound.follows (length found) (commit t) stands)).0

  -- the map before a commit is one of those that the history had
  at_before : (found : List Entry) (t : Transaction) → found ≢ [] → at (found ++ commit t ∷ []) (count found) ≡ latest found
  at_before found t some =
      ap (λ m. after m (take (count found) (commits (found ++ commit t ∷ [])))) (opened-append found (commit t ∷ []) some)
      ∙ ap (after (opened found)) (ap (take (count found)) (commits-commit found t) ∙ take_at (commits found) (t ∷ []) (count found) refl)

  pub ruled_before : (found : List Entry) (t : Transaction) → found ≢ [] → IsSound rule (found ++ commit t ∷ [])
      → IsTrue (is_trusted found) → rule (latest found)
  ruled_before found t some sound trusted =
      subst rule (at_before found t some)
      (sound.ruled (subst (λ (b : Bool). IsTrue b) (sym (is_trusted-append found (commit t ∷ []) some)) trusted) (count found))

  pub layout_before : (layout : Shape) (found : List Entry) (t : Transaction) → found ≢ [] → (opened (found ++ commit t ∷ [])).layout ≡ layout
      → (latest found).layout ≡ layout
  layout_before layout found t some on_disk =
      after-layout (opened found) (commits found) ∙ sym (ap (λ (m : Map). m.layout) (opened-append found (commit t ∷ []) some)) ∙ on_disk
