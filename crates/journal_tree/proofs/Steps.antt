-- What one call does to a tree, and the ways through the cases of a call.
use Rattle.std.proofs.Common.{◌≡◌, ◌≢◌, ℕ, ◌<◌, ◌==◌, Bool, true, false, List, Option, Some, None, Ok, refl, sym, subst, ◌⊎◌}
use Rattle.std.specs.Prelude.{is_err, if◌then◌else◌}
use Rattle.std.proofs.lemmas.Bool.{eq-eqb, false≢true}
use Rattle.journal_tree.specs.declared.limits.TheConstants.{ROOT, MOST_PLACES}
use Rattle.journal_tree.specs.declared.time.Time.{Time}
use Rattle.journal_tree.specs.declared.reply.Handle.{Handle}
use Rattle.journal_tree.specs.declared.reply.Room.{Room}
use Rattle.journal_tree.specs.declared.status.Status.{Status}
use Rattle.journal_tree.specs.declared.status.Status.TheVariants.{NoAccess, NotDirectory, Invalid, NameTooLong, Stale}
use Rattle.journal_tree.specs.Trees.{Node, Slot, Tree, places_of, is_directory, with_slot, with_node, find}
use Rattle.journal_tree.specs.Times.{IsTime, time_of_change}
use Rattle.journal_tree.specs.declared.caller.Caller.{Caller}
use Rattle.journal_tree.specs.Callers.{is_root}
use Rattle.journal_tree.specs.Rights.{may_search, may_write, may_rename, may_take}
use Rattle.journal_tree.specs.declared.name.NameKind.{NameKind}
use Rattle.journal_tree.specs.Calls.{Outcome, refused, node_or_gone, target, name_kind, on_node, in_directory, allowed, in_searched, with_name, some_node, on_found, named}
use Rattle.journal_tree.specs.declared.name.NameKind.TheVariants.{Dot, DotDot, NoName, LongName, Name}
use Rattle.journal_tree.specs.Changes.{touch_place, planted, cut}
use Rattle.journal_tree.specs.Rule.{stems, IsBelow, HasTree}
use Rattle.journal_tree.specs.Renames.{Move, moved, new_home}
use Rattle.journal_tree.specs.Op.{Call, IsRoom}
use Rattle.journal_tree.specs.Fit.{IsFit, HasFit, IsCallable, IsCaller}
use Rattle.journal_tree.specs.Laws.{IsRightful, verifier_of}
use Rattle.journal_tree.proofs.Finding.{find-some}
use Rattle.journal_tree.proofs.Changing.{IsFreeHome}

-- Facts of a call: the bounds of its arguments, and the verifier of the node that it makes
pub record Known : Type 1 where
  pub bounds : Type 0
  pub verifier : Option ℕ

abbrev pub known : Call → Caller → Known
known call c = record { bounds = IsCallable call × IsCaller c; verifier = verifier_of call }

-- The change of a node that changes where it hangs, by a call of which R is known
pub record IsChange (R : Known) (c : Caller) (now : Time) (x y : Node) : Type 0 where
  pub home : y.home ≡ x.home
  pub places : places_of y.body ≡ places_of x.body
  pub ctime : y.attributes.ctime ≡ time_of_change x.attributes.ctime now
  pub verifier : y.attributes.verifier ≡ None
  pub fit : R.bounds → IsTime now → IsFit x → IsFit y
  pub rights : is_root c ≡ false → IsRightful c x y

-- A new node of a directory
pub record IsPlanted (R : Known) (c : Caller) (now : Time) (T : Tree) (d : ℕ) (x : Node) (given : Room) (y : Node) : Type 0 where
  pub is : (T.at d).node ≡ Some x
  pub kind : is_directory x.body ≡ true
  pub room : IsRoom T d given
  pub free : find T d y.home.name ≡ None
  pub directory : y.home.directory ≡ d
  pub place : y.home.place ≡ given.place
  pub verifier : y.attributes.verifier ≡ R.verifier
  pub fit : R.bounds → IsTime now → IsFit x → IsFit y
  pub rights : may_rename c x.attributes ≡ true

-- A node of a directory that goes
pub record IsCut (c : Caller) (T : Tree) (d n : ℕ) (x y : Node) : Type 0 where
  pub is : (T.at d).node ≡ Some x
  pub kind : is_directory x.body ≡ true
  pub at : (T.at n).node ≡ Some y
  pub home : y.home.directory ≡ d
  pub empty : (i : ℕ) (z : Node) → (T.at i).node ≡ Some z → z.home.directory ≡ n → ⊥
  pub rights : may_rename c x.attributes ≡ true
  pub sticky : may_take c x.attributes y.attributes ≡ true

-- A node that a RENAME replaces
pub record IsReplaced (c : Caller) (T : Tree) (m : Move) (i : ℕ) (x : Node) : Type 0 where
  pub found : find T m.e m.name ≡ Some i
  pub home : x.home.directory ≡ m.e
  pub sticky : may_take c m.y.attributes x.attributes ≡ true

-- The tree from which a node is moved: what stood under the new name is taken away
pub record IsWithout (c : Caller) (T : Tree) (m : Move) (W : Tree) : Type 0 where
  pub tree : HasTree W
  pub generation : (i : ℕ) → (W.at i).generation ≡ (T.at i).generation
  pub kept : (i : ℕ) (x : Node) → (W.at i).node ≡ Some x → (T.at i).node ≡ Some x
  pub left : (i : ℕ) (x : Node) → (T.at i).node ≡ Some x → ((W.at i).node ≡ Some x) ⊎ IsReplaced c T m i x

-- A node that goes to a place of another directory, or gets another name in its own
pub record IsMoved (c : Caller) (T : Tree) (m : Move) (n : ℕ) (z : Node) (place : ℕ) (W : Tree) : Type 0 where
  pub without : IsWithout c T m W
  pub source : (W.at m.d).node ≡ Some m.x
  pub goal : (W.at m.e).node ≡ Some m.y
  pub kind : is_directory m.y.body ≡ true
  pub at : (W.at n).node ≡ Some z
  pub home : z.home.directory ≡ m.d
  pub below_root : n ≢ ROOT
  pub below_source : n ≢ m.d
  pub apart : IsBelow (stems W) n m.e → ⊥
  pub free : IsFreeHome W n (new_home m z place)
  pub name : name_kind m.name ≡ Name
  pub within : HasFit T → place < MOST_PLACES
  pub source_rights : may_rename c m.x.attributes ≡ true
  pub source_sticky : may_take c m.x.attributes z.attributes ≡ true
  pub parent_rights : (m.d ≡ m.e) ⊎ (is_directory z.body ≡ false) ⊎ (may_write c z.attributes ≡ true)
  pub goal_rights : may_rename c m.y.attributes ≡ true

-- The tree after one call
pub data Step (R : Known) (c : Caller) (now : Time) (T : Tree) : Tree → Type 0 where
  stays : Step R c now T T
  sets : (n : ℕ) (x y : Node) → (T.at n).node ≡ Some x → IsChange R c now x y → Step R c now T (with_node T n (Some y))
  plants : (d : ℕ) (x : Node) (room : Room) (y : Node) → IsPlanted R c now T d x room y → Step R c now T (planted (touch_place T d y.home.place now) room.number y)
  cuts : (d n : ℕ) (x y : Node) → IsCut c T d n x y → Step R c now T (cut T d n now)
  moves : (m : Move) (n : ℕ) (z : Node) (place : ℕ) (W : Tree) → IsMoved c T m n z place W → Step R c now T (moved W m n z place now)

-- a number's own slot after it was replaced
pub own_slot : (T : Tree) (n : ℕ) (s : Slot) → (with_slot T n s).at n ≡ s
own_slot T n s = rw (eq-eqb n n refl) refl

module _ (R : Known) (c : Caller) (now : Time) (T : Tree) {A : Type 0} (G : A → Tree → Type 0) where
  -- What is to be shown of each call: it is a step, G holds of its answer, and a refusal changes
  -- nothing
  pub record IsRight (o : Outcome A) : Type 0 where
    pub step : Step R c now T o.1
    pub given : (r : A) → o.0 ≡ Ok r → G r o.1
    pub refusal : is_err o.0 ≡ true → o.1 ≡ T

  pub right_no : (s : Status) → IsRight (refused s T)
  right_no s = record { step = Step.stays; given = λ r e. absurd (cc (e)); refusal = λ _. refl }

  pub right_yes : (r : A) (T2 : Tree) → Step R c now T T2 → G r T2 → IsRight (Ok r, T2)
  right_yes r T2 step holds = record {
    step = step;
    given = λ r2 e. (let q : r ≡ r2 = cc in subst (λ (r : A). G r T2) q holds);
    refusal = λ e. absurd (false≢true e);
  }

  pub right_if : (b : Bool) (x y : Outcome A) → (b ≡ true → IsRight x) → (b ≡ false → IsRight y) → IsRight (if b then x else y)
  right_if true x y f g = f refl
  right_if false x y f g = g refl

  pub right_allowed : (b : Bool) (x : Outcome A) → (b ≡ true → IsRight x) → IsRight (allowed T b x)
  right_allowed b x f = right_if b x (refused NoAccess T) f (λ _. right_no NoAccess)

  pub right_target : (h : Handle) (f : ℕ → Node → Outcome A) → ((x : Node) → (T.at h.number).node ≡ Some x → IsRight (f h.number x)) → IsRight (on_node T (target T h) f)
  right_target h f right = by (T.at h.number).node ((T.at h.number).generation == h.generation) refl
    where
      by : (o : Option Node) (b : Bool) → (T.at h.number).node ≡ o → IsRight (on_node T (node_or_gone h.number b o) f)
      by None b is = right_no Stale
      by (Some x) true is = right x is
      by (Some x) false is = right_no Stale

  pub right_directory : (h : Handle) (f : ℕ → Node → Outcome A) → ((x : Node) → (T.at h.number).node ≡ Some x → is_directory x.body ≡ true → IsRight (f h.number x)) → IsRight (in_directory T (target T h) f)
  right_directory h f right = right_target h _ (λ x is. right_if (is_directory x.body) _ _ (right x is) (λ _. right_no NotDirectory))

  pub right_searched : (h : Handle) (f : ℕ → Node → Outcome A) → ((x : Node) → (T.at h.number).node ≡ Some x → is_directory x.body ≡ true → IsRight (f h.number x)) → IsRight (in_searched c T (target T h) f)
  right_searched h f right = right_directory h _ (λ x is kind. right_allowed (may_search c x.attributes) _ (λ _. right x is kind))

  pub right_name : (kind : NameKind) (a b : Status) (o : Outcome A) → (kind ≡ Name → IsRight o) → IsRight (with_name T kind a b o)
  right_name Dot a b o right = right_no a
  right_name DotDot a b o right = right_no b
  right_name NoName a b o right = right_no Invalid
  right_name LongName a b o right = right_no NameTooLong
  right_name Name a b o right = right refl

  pub right_search : (d : ℕ) (name : List ℕ) (none : Outcome A) (some : ℕ → Node → Outcome A) → (find T d name ≡ None → IsRight none)
      → ((n : ℕ) (x : Node) → find T d name ≡ Some n → (T.at n).node ≡ Some x → x.home.directory ≡ d → x.home.name ≡ name → IsRight (some n x)) → IsRight (on_found T (find T d name) none some)
  right_search d name none some a b = by (find T d name) refl
    where
      by : (o : Option ℕ) → find T d name ≡ o → IsRight (on_found T o none some)
      by None is = a is
      by (Some n) is = let h = find-some T d name n is in subst (λ (o : Option Node). IsRight (some_node o none (some n))) (sym h.1) (b n h.0 is h.1 h.2 h.3)

  pub right_find : (d : ℕ) (name : List ℕ) (none : Outcome A) (some : ℕ → Node → Outcome A) → (find T d name ≡ None → IsRight none)
      → ((n : ℕ) (x : Node) → (T.at n).node ≡ Some x → x.home.directory ≡ d → IsRight (some n x)) → IsRight (on_found T (find T d name) none some)
  right_find d name none some a b = right_search d name none some a (λ n x found is home named. b n x is home)

  pub right_named : (h : Handle) (name : List ℕ) (a b : Status) (none : ℕ → Node → Outcome A) (some : ℕ → Node → ℕ → Node → Outcome A)
      → ((x : Node) → (T.at h.number).node ≡ Some x → is_directory x.body ≡ true → name_kind name ≡ Name → find T h.number name ≡ None → IsRight (none h.number x))
      → ((x : Node) → (T.at h.number).node ≡ Some x → is_directory x.body ≡ true → (n : ℕ) (y : Node) → (T.at n).node ≡ Some y → y.home.directory ≡ h.number → IsRight (some h.number x n y))
      → IsRight (named c name a b T (target T h) none some)
  right_named h name a b none some absent there = right_searched h _ (λ x is kind.
      right_name (name_kind name) a b _ (λ is_name.
      right_find h.number name (none h.number x) (some h.number x) (absent x is kind is_name) (there x is kind)))
