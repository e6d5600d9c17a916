-- Calls do to nodes what their callers may.
use Rattle.std.proofs.Common.{◌≡◌, ◌≢◌, ℕ, ◌+◌, ◌==◌, Bool, true, false, not, ◌||◌, List, length, Option, Some, None, Ok, Err, sym, ap, subst, ◌⊎◌, inl, inr, ◌∙◌}
use Rattle.std.specs.Prelude.{nat_lt, if◌then◌else◌, option_map}
use Rattle.std.proofs.lemmas.Bool.{or_left, or_right, false≢true}
use Rattle.journal_tree.specs.declared.limits.TheConstants.{MOST_BYTES}
use Rattle.journal_tree.specs.declared.time.Time.{Time}
use Rattle.journal_tree.specs.declared.reply.Attributes.{Attributes}
use Rattle.journal_tree.specs.declared.reply.Handle.{Handle}
use Rattle.journal_tree.specs.declared.status.Status.{Status}
use Rattle.journal_tree.specs.declared.status.Status.TheVariants.{NoAccess, Invalid, TooBig, NoSpace, Stale}
use Rattle.journal_tree.specs.Trees.{Body, Node, Slot, Tree, with_node}
use Rattle.journal_tree.specs.Trees.Body.{directory, file, link}
use Rattle.journal_tree.specs.declared.caller.Caller.{Caller}
use Rattle.journal_tree.specs.Callers.{is_root}
use Rattle.journal_tree.specs.Rights.{is_owner, may_read, may_write, may_run, may_fetch, may_store, may_rename, may_take}
use Rattle.journal_tree.specs.Rule.{HasTree}
use Rattle.journal_tree.specs.Calls.{Outcome, refused, target, on_node, allowed, node_or_gone}
use Rattle.journal_tree.specs.Changes.{touched, opened, touch_place, planted, cut}
use Rattle.journal_tree.specs.Contents.{read_body, write_body}
use Rattle.journal_tree.specs.Runs.{IsOneNode, HasSameNames}
use Rattle.journal_tree.specs.Laws.{IsRightful, IsRightfulMove, IsRightfulEnd, CallsKeepRights, OwnersReadAndWrite}
use Rattle.journal_tree.proofs.Changing.{slot_cases, map_cases, one}
use Rattle.journal_tree.proofs.Steps.{Known, known, Step}
use Rattle.journal_tree.proofs.Steps.Step.{stays, sets, plants, cuts, moves}
use Rattle.journal_tree.proofs.Moving.{moved-gone}
use Rattle.journal_tree.proofs.Keeping.{op-done}
use Rattle.journal_tree.proofs.Fates.{Fate, fate}
use Rattle.journal_tree.proofs.Fates.Fate.{same, set, names, hung}

module _ (R : Known) (c : Caller) (now : Time) (T : Tree) (tree : HasTree T) (other : is_root c ≡ false) where
  rightful : (T2 : Tree) (n : ℕ) (x y : Node) → IsOneNode T T2 n x y → Step R c now T T2 → Fate R c now T T2 n x y → IsRightful c x y
  rightful T2 n x y it step (same e s) = record { owner = ap (λ (x : Node). x.attributes.owner) (sym e); group = inl (ap (λ (x : Node). x.attributes.group) (sym e)); bytes = inl (ap (λ (x : Node). x.body) (sym e)) }
  rightful T2 n x y it step (set change s) = change.rights other
  rightful T2 n x y it step (names e home may) = record { owner = ap (λ (a : Attributes). a.owner) e; group = inl (ap (λ (a : Attributes). a.group) e); bytes = inr (inr may) }
  rightful T2 n x y it step (hung e b move s) = record { owner = ap (λ (a : Attributes). a.owner) e; group = inl (ap (λ (a : Attributes). a.group) e); bytes = inl b }

  rightful-names : (T2 : Tree) (n : ℕ) (x y : Node) → Fate R c now T T2 n x y → HasSameNames T T2 n ⊎ (may_rename c x.attributes ≡ true)
  rightful-names T2 n x y (same e s) = inl s
  rightful-names T2 n x y (set change s) = inl s
  rightful-names T2 n x y (names e home may) = inr may
  rightful-names T2 n x y (hung e b move s) = inl s

  rightful-move : (T2 : Tree) (n : ℕ) (x y : Node) → Fate R c now T T2 n x y → (y.home ≡ x.home) ⊎ IsRightfulMove c T x y
  rightful-move T2 n x y (same e s) = inl (ap (λ (x : Node). x.home) (sym e))
  rightful-move T2 n x y (set change s) = inl change.home
  rightful-move T2 n x y (names e home may) = inl home
  rightful-move T2 n x y (hung e b move s) = inr move

  -- a node goes by a cut, or where a node is moved to its name
  ends : (T2 : Tree) → Step R c now T T2 → (n : ℕ) (x : Node) → (T.at n).node ≡ Some x → (T2.at n).node ≡ None → IsRightfulEnd c T x
  ends _ stays n x is gone = absurd (cc (sym is ∙ gone))
  ends _ (sets m a b at change) n x is gone = by (slot_cases T m (record { generation = (T.at m).generation; node = Some b }) n)
    where
      by : ((n ≡ m) × ((with_node T m (Some b)).at n ≡ record { generation = (T.at m).generation; node = Some b })) ⊎ ((n ≢ m) × ((with_node T m (Some b)).at n ≡ T.at n)) → IsRightfulEnd c T x
      by (inl e) = absurd (cc (sym (ap (λ (s : Slot). s.node) e.1) ∙ gone))
      by (inr e) = absurd (cc (sym is ∙ sym (ap (λ (s : Slot). s.node) e.1) ∙ gone))
  ends _ (plants d a room b p) n x is gone = by (slot_cases (touch_place T d b.home.place now) room.number (record { generation = ((touch_place T d b.home.place now).at room.number).generation + 1; node = Some b }) n) (map_cases T d (opened b.home.place now) n)
    where
      V : Tree
      V = planted (touch_place T d b.home.place now) room.number b

      by : ((n ≡ room.number) × (V.at n ≡ record { generation = ((touch_place T d b.home.place now).at room.number).generation + 1; node = Some b })) ⊎ ((n ≢ room.number) × (V.at n ≡ (touch_place T d b.home.place now).at n))
          → ((n ≡ d) × (((touch_place T d b.home.place now).at n).node ≡ option_map (opened b.home.place now) (T.at n).node)) ⊎ ((n ≢ d) × ((touch_place T d b.home.place now).at n ≡ T.at n)) → IsRightfulEnd c T x
      by (inl e) _ = absurd (cc (sym (ap (λ (s : Slot). s.node) e.1) ∙ gone))
      by (inr e) (inl r) = absurd (cc (sym (ap (λ (s : Slot). s.node) e.1 ∙ r.1 ∙ ap (option_map (opened b.home.place now)) is) ∙ gone))
      by (inr e) (inr r) = absurd (cc (sym is ∙ sym (ap (λ (s : Slot). s.node) e.1 ∙ ap (λ (s : Slot). s.node) r.1) ∙ gone))
  ends _ (cuts d m a b p) n x is gone = by (slot_cases T m (record { generation = (T.at m).generation; node = None }) n) (map_cases (with_node T m None) d (touched now) n)
    where
      by : ((n ≡ m) × ((with_node T m None).at n ≡ record { generation = (T.at m).generation; node = None })) ⊎ ((n ≢ m) × ((with_node T m None).at n ≡ T.at n))
          → ((n ≡ d) × (((cut T d m now).at n).node ≡ option_map (touched now) ((with_node T m None).at n).node)) ⊎ ((n ≢ d) × ((cut T d m now).at n ≡ (with_node T m None).at n)) → IsRightfulEnd c T x
      by (inl e) _ =
          let node = one (T.at m).node b x p.at (ap (λ (i : ℕ). (T.at i).node) (sym e.0) ∙ is) in
          record {
            directory = a;
            is = ap (λ (x : Node). (T.at x.home.directory).node) (sym node) ∙ ap (λ (d : ℕ). (T.at d).node) p.home ∙ p.is;
            names = p.rights;
            sticky = subst (λ (x : Node). may_take c a.attributes x.attributes ≡ true) node p.sticky;
          }
      by (inr e) (inl r) = absurd (cc (sym (r.1 ∙ ap (λ (s : Slot). option_map (touched now) s.node) e.1 ∙ ap (option_map (touched now)) is) ∙ gone))
      by (inr e) (inr r) = absurd (cc (sym is ∙ sym (ap (λ (s : Slot). s.node) r.1 ∙ ap (λ (s : Slot). s.node) e.1) ∙ gone))
  ends _ (moves m k z place W it) n x is gone =
      let replaced = moved-gone c T m k z place W now it n x is gone in
      record {
        directory = m.y;
        is = ap (λ (d : ℕ). (T.at d).node) replaced.home ∙ it.without.kept m.e m.y it.goal;
        names = it.goal_rights;
        sticky = replaced.sticky;
      }

pub calls-keep-rights : CallsKeepRights
calls-keep-rights call c now T T2 reply tree other op = record {
  changes = λ n x y it. rightful R c now T tree other T2 n x y it step (fate R c now T tree T2 step n x y it);
  moves = λ n x y it. rightful-move R c now T tree other T2 n x y (fate R c now T tree T2 step n x y it);
  ends = λ n x is gone. ends R c now T tree other T2 step n x is gone;
  names = λ n x y it. rightful-names R c now T tree other T2 n x y (fate R c now T tree T2 step n x y it);
}
  where
    R : Known
    R = known call c

    step : Step (known call c) c now T T2
    step = (op-done call c now T T2 reply tree op).step

-- ── who is never refused for the mode ──

-- an outcome that is not a refusal for the mode
record IsNotDenied {A : Type 0} (o : Outcome A) : Type 0 where
  is : o.0 ≢ Err NoAccess

denied_if : {A : Type 0} (b : Bool) (x y : Outcome A) → IsNotDenied x → IsNotDenied y → IsNotDenied (if b then x else y)
denied_if true x y a b = a
denied_if false x y a b = b

allowed-is : {A : Type 0} (T : Tree) (b : Bool) (x : Outcome A) → b ≡ true → IsNotDenied x → IsNotDenied (allowed T b x)
allowed-is T true x e a = a
allowed-is T false x e a = absurd (false≢true e)

answered : {A : Type 0} (r : A) (T : Tree) → IsNotDenied {A = A} (Ok r, T)
answered r T = record { is = λ e. absurd (cc (e)) }

no_such : {A : Type 0} (s : Status) (T : Tree) → s ≢ NoAccess → IsNotDenied {A = A} (refused s T)
no_such s T other = record { is = λ e. (let q : s ≡ NoAccess = cc in other q) }

fetches : (c : Caller) (a : Attributes) → (is_owner c a ≡ true) ⊎ (may_run c a ≡ true) → may_fetch c a ≡ true
fetches c a (inl owner) = or_left (is_owner c a || may_read c a) (may_run c a) (or_left (is_owner c a) (may_read c a) owner)
fetches c a (inr runs) = or_right (is_owner c a || may_read c a) (may_run c a) runs

on_target : {A : Type 0} (T : Tree) (h : Handle) (f : ℕ → Node → Outcome A) (x : Node) → (T.at h.number).node ≡ Some x → IsNotDenied (f h.number x) → IsNotDenied (on_node T (target T h) f)
on_target {A} T h f x is good = subst (λ (o : Option Node). IsNotDenied (on_node T (node_or_gone h.number ((T.at h.number).generation == h.generation) o) f)) (sym is) (by ((T.at h.number).generation == h.generation))
  where
    by : (b : Bool) → IsNotDenied (on_node T (node_or_gone h.number b (Some x)) f)
    by true = good
    by false = no_such Stale T (λ e. absurd (cc (e)))

pub owners-read-and-write : OwnersReadAndWrite
owners-read-and-write c T h x is = (
  λ offset count who. (on_target T h _ x is (reads offset count (fetches c x.attributes who) x.body)).is,
  λ room offset count bs now owner. (on_target T h _ x is (writes room offset count bs now (or_left (is_owner c x.attributes) (may_write c x.attributes) owner) x.body)).is,
)
  where
    reads : (offset count : ℕ) → may_fetch c x.attributes ≡ true → (b : Body) → IsNotDenied (read_body c offset count T h.number x b)
    reads offset count may (directory places) = no_such Invalid T (λ e. absurd (cc (e)))
    reads offset count may (link text) = no_such Invalid T (λ e. absurd (cc (e)))
    reads offset count may (file bytes) = allowed-is T (may_fetch c x.attributes) _ may (answered _ T)

    writes : (room : Bool) (offset count : ℕ) (bs : List ℕ) (now : Time) → may_store c x.attributes ≡ true → (b : Body) → IsNotDenied (write_body c room offset count bs now T h.number x b)
    writes room offset count bs now may (directory places) = no_such Invalid T (λ e. absurd (cc (e)))
    writes room offset count bs now may (link text) = no_such Invalid T (λ e. absurd (cc (e)))
    writes room offset count bs now may (file bytes) =
        denied_if (not (count == length bs)) _ _ (no_such Invalid T (λ e. absurd (cc (e)))) (
        allowed-is T (may_store c x.attributes) _ may (
        denied_if (count == 0) _ _ (answered _ T) (
        denied_if (nat_lt MOST_BYTES (offset + count)) _ _ (no_such TooBig T (λ e. absurd (cc (e)))) (
        denied_if (not room) _ _ (no_such NoSpace T (λ e. absurd (cc (e)))) (answered _ _)))))
