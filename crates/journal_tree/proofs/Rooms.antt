-- When a RENAME is never refused for lack of room.
use Rattle.std.proofs.Common.{◌≡◌, ◌≢◌, ℕ, ◌==◌, Bool, true, false, not, ◌&&◌, List, Option, Some, None, Ok, Err, refl, sym, ap, subst, ◌⊎◌, inl, inr, ◌∙◌}
use Rattle.std.specs.Prelude.{if◌then◌else◌}
use Rattle.std.proofs.lemmas.Bool.{eq-eqb}
use Rattle.journal_tree.specs.declared.time.Time.{Time}
use Rattle.journal_tree.specs.declared.status.Status.{Status}
use Rattle.journal_tree.specs.declared.status.Status.TheVariants.{NoAccess, NoEntry, Exists, NotDirectory, Invalid, NoSpace, NameTooLong, Stale}
use Rattle.journal_tree.specs.declared.reply.Handle.{Handle}
use Rattle.journal_tree.specs.declared.reply.Renamed.{Renamed}
use Rattle.journal_tree.specs.declared.caller.Caller.{Caller}
use Rattle.journal_tree.specs.declared.name.NameKind.{NameKind}
use Rattle.journal_tree.specs.declared.name.NameKind.TheVariants.{Dot, DotDot, NoName, LongName, Name}
use Rattle.journal_tree.specs.Trees.{Node, Tree, is_directory, with_node, find}
use Rattle.journal_tree.specs.Rights.{may_search, may_take}
use Rattle.journal_tree.specs.Calls.{Outcome, refused, node_or_gone, target, name_kind, on_node, allowed, in_searched, with_name, some_node, on_found}
use Rattle.journal_tree.specs.Renames.{Move, both_changed, both_unchanged, moved, may_move, is_large, new_place, place_over, may_replace, move_to, move_new, move_over, move_node, rename_case}
use Rattle.journal_tree.specs.Op.Op.{answers_rename}
use Rattle.journal_tree.specs.Laws.{RenamesHaveRoom}
use Rattle.journal_tree.proofs.Finding.{find-some}

-- an outcome that is not a refusal for lack of room
record HasRoom {A : Type 0} (o : Outcome A) : Type 0 where
  is : o.0 ≢ Err NoSpace

room-no : {A : Type 0} (s : Status) (T : Tree) → s ≢ NoSpace → HasRoom {A = A} (refused s T)
room-no s T other = record { is = λ e. (let q : s ≡ NoSpace = cc in other q) }

room-yes : {A : Type 0} (r : A) (T : Tree) → HasRoom {A = A} (Ok r, T)
room-yes r T = record { is = λ e. absurd (cc (e)) }

room-if : {A : Type 0} (b : Bool) (x y : Outcome A) → HasRoom x → HasRoom y → HasRoom (if b then x else y)
room-if true x y a b = a
room-if false x y a b = b

room-node : {A : Type 0} (T : Tree) (h : Handle) (f : ℕ → Node → Outcome A) → ((x : Node) → (T.at h.number).node ≡ Some x → HasRoom (f h.number x)) → HasRoom (on_node T (target T h) f)
room-node T h f room = by (T.at h.number).node ((T.at h.number).generation == h.generation) refl
  where
    by : (o : Option Node) (b : Bool) → (T.at h.number).node ≡ o → HasRoom (on_node T (node_or_gone h.number b o) f)
    by None b is = room-no Stale T (λ e. absurd (cc (e)))
    by (Some x) true is = room x is
    by (Some x) false is = room-no Stale T (λ e. absurd (cc (e)))

room-searched : {A : Type 0} (c : Caller) (T : Tree) (h : Handle) (f : ℕ → Node → Outcome A) → ((x : Node) → (T.at h.number).node ≡ Some x → HasRoom (f h.number x)) → HasRoom (in_searched c T (target T h) f)
room-searched c T h f room = room-node T h _ (λ x is.
    room-if (is_directory x.body) _ _ (room-if (may_search c x.attributes) _ _ (room x is) (room-no NoAccess T (λ e. absurd (cc (e))))) (room-no NotDirectory T (λ e. absurd (cc (e)))))

room-name : {A : Type 0} (T : Tree) (kind : NameKind) (o : Outcome A) → HasRoom o → HasRoom (with_name T kind Invalid Invalid o)
room-name T Dot o room = room-no Invalid T (λ e. absurd (cc (e)))
room-name T DotDot o room = room-no Invalid T (λ e. absurd (cc (e)))
room-name T NoName o room = room-no Invalid T (λ e. absurd (cc (e)))
room-name T LongName o room = room-no NameTooLong T (λ e. absurd (cc (e)))
room-name T Name o room = room

-- the directory is not large, and the node hangs in it, or the name is there
abbrev IsRoomy : Tree → Move → Type 0
IsRoomy T m = ((m.d ≡ m.e) × (is_large m.y.body ≡ false)) ⊎ ((j : ℕ) × (find T m.e m.name ≡ Some j))

module _ (c : Caller) (below : Bool) (place : Option ℕ) (now : Time) (T : Tree) (m : Move) (roomy : IsRoomy T m) (n : ℕ) (z : Node) where
  new-room : find T m.e m.name ≡ None → HasRoom (move_new below place now T m n z)
  new-room none = room-if below _ _ (room-no Invalid T (λ e. absurd (cc (e)))) (by roomy)
    where
      by : IsRoomy T m → HasRoom (move_to m (new_place m z place) now T T n z)
      by (inl own) =
          let is : (m.d == m.e && not (is_large m.y.body)) ≡ true = ap (λ b. b && not (is_large m.y.body)) (eq-eqb m.d m.e own.0) ∙ ap not own.1 in
          subst (λ b. HasRoom (move_to m (if b then Some z.home.place else place) now T T n z)) (sym is) (room-yes _ _)
      by (inr there) = absurd (cc (sym none ∙ there.1))

  over-room : (j : ℕ) (v : Node) → HasRoom (move_over c below now T m n z j v)
  over-room j v =
      room-if (j == n) _ _ (room-yes _ _) (
      room-if below _ _ (room-no Invalid T (λ e. absurd (cc (e)))) (
      room-if (may_take c m.y.attributes v.attributes) _ _ (
      room-if (not (may_replace T z j v)) _ _ (room-no Exists T (λ e. absurd (cc (e)))) (room-yes _ _)) (room-no NoAccess T (λ e. absurd (cc (e))))))

  move-room : HasRoom (move_node c below place now T m n z)
  move-room = room-if (may_move c m z) _ _ (by (find T m.e m.name) refl) (room-no NoAccess T (λ e. absurd (cc (e))))
    where
      by : (o : Option ℕ) → find T m.e m.name ≡ o → HasRoom (on_found T o (move_new below place now T m n z) (move_over c below now T m n z))
      by None is = new-room is
      by (Some j) is =
          let v = find-some T m.e m.name j is in
          subst (λ (o : Option Node). HasRoom (some_node o (move_new below place now T m n z) (move_over c below now T m n z j))) (sym v.1) (over-room j v.0)

pub renames-have-room : RenamesHaveRoom
renames-have-room h k name new_name c now T T2 roomy (answers_rename _ _ _ _ below place _ _ _ _ _ take tells is) = room.is (ap (λ o. o.0) (sym is))
  where
    found-room : (x y : Node) → (T.at k.number).node ≡ Some y → (o : Option ℕ)
        → HasRoom (on_found T o (refused NoEntry T) (move_node c below place now T (record { d = h.number; x = x; e = k.number; y = y; name = new_name })))
    found-room x y at None = room-no NoEntry T (λ e. absurd (cc (e)))
    found-room x y at (Some n) = by (T.at n).node
      where
        m : Move
        m = record { d = h.number; x = x; e = k.number; y = y; name = new_name }

        its : IsRoomy T (record { d = h.number; x = x; e = k.number; y = y; name = new_name })
        its = own roomy
          where
            own : ((h.number ≡ k.number) × ((x : Node) → (T.at k.number).node ≡ Some x → is_large x.body ≡ false)) ⊎ ((j : ℕ) × (find T k.number new_name ≡ Some j))
                → IsRoomy T (record { d = h.number; x = x; e = k.number; y = y; name = new_name })
            own (inl within) = inl (within.0, within.1 y at)
            own (inr there) = inr there

        by : (o : Option Node) → HasRoom (some_node o (refused NoEntry T) (move_node c below place now T (record { d = h.number; x = x; e = k.number; y = y; name = new_name }) n))
        by None = room-no NoEntry T (λ e. absurd (cc (e)))
        by (Some z) = move-room c below place now T (record { d = h.number; x = x; e = k.number; y = y; name = new_name }) its n z

    room : HasRoom (rename_case c below place name new_name now T (target T h) (target T k))
    room =
        room-node T h _ (λ x1 is1. room-node T k _ (λ y1 at1.
        room-searched c T h _ (λ x is. room-searched c T k _ (λ y at.
        room-name T (name_kind name) _ (room-name T (name_kind new_name) _ (found-room x y at (find T h.number name)))))))
