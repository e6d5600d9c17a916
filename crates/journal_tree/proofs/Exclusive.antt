-- The file of an exclusive CREATE, and the answer to the same call that comes once more.
use Rattle.std.proofs.Common.{◌≡◌, ◌≢◌, ℕ, ◌+◌, ◌==◌, Bool, true, false, ◌&&◌, List, [], Option, Some, None, Result, Ok, refl, sym, ap, subst, ◌⊎◌, inl, inr, ◌∙◌}
use Rattle.std.specs.Prelude.{if◌then◌else◌, option_map}
use Rattle.std.proofs.lemmas.Bool.{eqb-true, eq-eqb, ne_eqb, and_parts, and_from, false≢true}
use Rattle.journal_tree.specs.declared.time.Time.{Time}
use Rattle.journal_tree.specs.declared.reply.Kind.TheVariants.{File}
use Rattle.journal_tree.specs.declared.reply.Handle.{Handle}
use Rattle.journal_tree.specs.declared.reply.Told.{Told}
use Rattle.journal_tree.specs.declared.reply.Made.{Made}
use Rattle.journal_tree.specs.declared.reply.Room.{Room}
use Rattle.journal_tree.specs.declared.settings.CreateMode.TheVariants.{Exclusive}
use Rattle.journal_tree.specs.declared.status.Status.{Status}
use Rattle.journal_tree.specs.declared.status.Status.TheVariants.{NoAccess, Exists, NotDirectory, Invalid, NoSpace, NameTooLong, Stale}
use Rattle.journal_tree.specs.declared.name.NameKind.{NameKind}
use Rattle.journal_tree.specs.declared.name.NameKind.TheVariants.{Dot, DotDot, NoName, LongName, Name}
use Rattle.journal_tree.specs.declared.caller.Caller.{Caller}
use Rattle.journal_tree.specs.Trees.{Body, Node, Slot, Tree, is_directory, is_file, find}
use Rattle.journal_tree.specs.Trees.Body.{directory, file, link}
use Rattle.journal_tree.specs.Rights.{may_search, may_rename}
use Rattle.journal_tree.specs.Rule.{HasTree}
use Rattle.journal_tree.specs.Calls.{Outcome, refused, kind_of, told, node_or_gone, target, name_kind, allowed, with_name, some_node, on_found, named}
use Rattle.journal_tree.specs.Changes.{grown_body, opened, touch_place, planted}
use Rattle.journal_tree.specs.Names.{new_node, born, made_before, exclusive_attributes, create_exclusive, is_verifier, is_made_by, create_again, create_case}
use Rattle.journal_tree.specs.Op.{Call, Reply, Op, IsRoom, MayTake}
use Rattle.journal_tree.specs.Op.Op.{answers_create}
use Rattle.journal_tree.specs.Laws.{ExclusiveMakes, ExclusiveAgain, ExclusiveOther, CallsGiveVerifiers}
use Rattle.journal_tree.proofs.Finding.{find-some}
use Rattle.journal_tree.proofs.Changing.{at_other, same_generation}
use Rattle.journal_tree.proofs.Hanging.{found_by_name}
use Rattle.journal_tree.proofs.Steps.{known, own_slot}
use Rattle.journal_tree.proofs.Keeping.{op-done, keeps-trees}
use Rattle.journal_tree.proofs.Fates.{gives-verifier}

-- ── a name in a directory ──

module _ {A : Type 0} (c : Caller) (T : Tree) (h : Handle) (name : List ℕ) (none : ℕ → Node → Outcome A) (some : ℕ → Node → ℕ → Node → Outcome A) where
  -- The handle names a directory that the caller may search, and the name is one
  record IsLooked (x : Node) : Type 0 where
    node : (T.at h.number).node ≡ Some x
    generation : ((T.at h.number).generation == h.generation) ≡ true
    kind : is_directory x.body ≡ true
    search : may_search c x.attributes ≡ true
    is_name : name_kind name ≡ Name

  record IsAnswered (r : A) (T2 : Tree) : Type 0 where
    x : Node
    looked : IsLooked x
    outcome : (Ok r, T2) ≡ on_found T (find T h.number name) (none h.number x) (some h.number x)

  looked-up : (r : A) (T2 : Tree) → (Ok r, T2) ≡ named c name Exists Exists T (target T h) none some → IsAnswered r T2
  looked-up r T2 is = by (T.at h.number).node ((T.at h.number).generation == h.generation) refl refl is
    where
      no : (s : Status) → (Ok r, T2) ≡ refused s T → IsAnswered r T2
      no s e = absurd (cc (ap (λ (o : Outcome A). o.0) e))

      of_name : (x : Node) → (T.at h.number).node ≡ Some x → ((T.at h.number).generation == h.generation) ≡ true → is_directory x.body ≡ true → may_search c x.attributes ≡ true → (k : NameKind) → name_kind name ≡ k
          → (Ok r, T2) ≡ with_name T k Exists Exists (on_found T (find T h.number name) (none h.number x) (some h.number x)) → IsAnswered r T2
      of_name x node generation kind search Dot e is = no Exists is
      of_name x node generation kind search DotDot e is = no Exists is
      of_name x node generation kind search NoName e is = no Invalid is
      of_name x node generation kind search LongName e is = no NameTooLong is
      of_name x node generation kind search Name e is = record { x = x; looked = record { node = node; generation = generation; kind = kind; search = search; is_name = e }; outcome = is }

      of_right : (x : Node) → (T.at h.number).node ≡ Some x → ((T.at h.number).generation == h.generation) ≡ true → is_directory x.body ≡ true → (b : Bool) → may_search c x.attributes ≡ b
          → (Ok r, T2) ≡ allowed T b (with_name T (name_kind name) Exists Exists (on_found T (find T h.number name) (none h.number x) (some h.number x))) → IsAnswered r T2
      of_right x node generation kind true search is = of_name x node generation kind search (name_kind name) refl is
      of_right x node generation kind false search is = no NoAccess is

      of_kind : (x : Node) → (T.at h.number).node ≡ Some x → ((T.at h.number).generation == h.generation) ≡ true → (b : Bool) → is_directory x.body ≡ b
          → (Ok r, T2) ≡ (if b then allowed T (may_search c x.attributes) (with_name T (name_kind name) Exists Exists (on_found T (find T h.number name) (none h.number x) (some h.number x))) else refused NotDirectory T) → IsAnswered r T2
      of_kind x node generation true kind is = of_right x node generation kind (may_search c x.attributes) refl is
      of_kind x node generation false kind is = no NotDirectory is

      by : (o : Option Node) (b : Bool) → (T.at h.number).node ≡ o → ((T.at h.number).generation == h.generation) ≡ b → (Ok r, T2) ≡ named c name Exists Exists T (node_or_gone h.number b o) none some → IsAnswered r T2
      by None b node generation is = no Stale is
      by (Some x) false node generation is = no Stale is
      by (Some x) true node generation is = of_kind x node generation (is_directory x.body) refl is

  -- where the name is there, that is what decides
  found-there : (x : Node) → IsLooked x → (n : ℕ) (y : Node) → find T h.number name ≡ Some n → (T.at n).node ≡ Some y → named c name Exists Exists T (target T h) none some ≡ some h.number x n y
  found-there x looked n y found at =
      ap (λ (o : Option Node). named c name Exists Exists T (node_or_gone h.number ((T.at h.number).generation == h.generation) o) none some) looked.node
      ∙ ap (λ (b : Bool). named c name Exists Exists T (node_or_gone h.number b (Some x)) none some) looked.generation
      ∙ ap (λ (b : Bool). if b then allowed T (may_search c x.attributes) (with_name T (name_kind name) Exists Exists (on_found T (find T h.number name) (none h.number x) (some h.number x))) else refused NotDirectory T) looked.kind
      ∙ ap (λ (b : Bool). allowed T b (with_name T (name_kind name) Exists Exists (on_found T (find T h.number name) (none h.number x) (some h.number x)))) looked.search
      ∙ ap (λ (k : NameKind). with_name T k Exists Exists (on_found T (find T h.number name) (none h.number x) (some h.number x))) looked.is_name
      ∙ ap (λ (o : Option ℕ). on_found T o (none h.number x) (some h.number x)) found
      ∙ ap (λ (o : Option Node). some_node o (none h.number x) (some h.number x n)) at

-- ── what is there after an exclusive CREATE that was answered OK ──

record IsThere (c : Caller) (T T2 : Tree) (h : Handle) (name : List ℕ) (verifier : ℕ) (m : Made) : Type 0 where
  x : Node
  looked : (none : ℕ → Node → Outcome Made) (some : ℕ → Node → ℕ → Node → Outcome Made) → IsLooked c T2 h name none some x
  n : ℕ
  y : Node
  found : find T2 h.number name ≡ Some n
  at : (T2.at n).node ≡ Some y
  kind : is_file y.body ≡ true
  verifier_is : y.attributes.verifier ≡ Some verifier
  generation : m.generation ≡ (T2.at n).generation
  node : m.node ≡ told n y
  directory_is : m.directory.after ≡ told h.number x
  once : (T2 ≡ T) ⊎ (find T h.number name ≡ None)

verifier-is : (o : Option ℕ) (verifier : ℕ) → is_verifier o verifier ≡ true → o ≡ Some verifier
verifier-is None verifier e = absurd (false≢true e)
verifier-is (Some v) verifier e = ap Some (eqb-true v verifier e)

grown-kind : (place : ℕ) (b : Body) → is_directory b ≡ true → is_directory (grown_body place b) ≡ true
grown-kind place (directory places) e = refl
grown-kind place (file bytes) e = e
grown-kind place (link text) e = e

file-kind : (b : Body) → is_file b ≡ true → kind_of b ≡ File
file-kind (directory places) e = absurd (false≢true e)
file-kind (file bytes) e = refl
file-kind (link text) e = absurd (false≢true e)

module _ (c : Caller) (T : Tree) (h : Handle) (name : List ℕ) (verifier : ℕ) (room : Option Room) (now : Time) where
  -- the file that is made, and the tree after it
  abbrev new_file : Node → Room → Node
  new_file x given = new_node h.number given name (exclusive_attributes c verifier x.attributes now) (file [])

  abbrev new_tree : Node → Room → Tree
  new_tree x given = planted (touch_place T h.number given.place now) given.number (new_file x given)

  -- a file was made
  new-there : (x : Node) (given : Room) (none : ℕ → Node → Outcome Made) (some : ℕ → Node → ℕ → Node → Outcome Made) → IsLooked c T h name none some x → find T h.number name ≡ None → IsRoom T h.number given
      → HasTree (new_tree x given)
      → IsThere c T (new_tree x given) h name verifier (record {
        generation = (T.at given.number).generation + 1;
        node = told given.number (new_file x given);
        directory = record { before = told h.number x; after = told h.number (opened given.place now x) };
      })
  new-there x given none some looked missing free tree = record {
    x = opened given.place now x;
    looked = λ none some. record {
      node = directory_node;
      generation = ap (λ (g : ℕ). g == h.generation) (ap (λ (s : Slot). s.generation) (at_other (touch_place T h.number given.place now) given.number h.number _ apart) ∙ same_generation T h.number h.number _) ∙ looked.generation;
      kind = grown-kind given.place x.body looked.kind;
      search = looked.search;
      is_name = looked.is_name;
    };
    n = given.number;
    y = new;
    found = found_by_name (new_tree x given) given.number new tree (ap (λ (s : Slot). s.node) own);
    at = ap (λ (s : Slot). s.node) own;
    kind = refl;
    verifier_is = refl;
    generation = sym (ap (λ (s : Slot). s.generation) own ∙ ap (λ (s : Slot). s.generation + 1) (at_other T h.number given.number _ (λ e. apart (sym e))));
    node = refl;
    directory_is = refl;
    once = inr missing;
  }
    where
      new : Node
      new = new_file x given

      apart : h.number ≢ given.number
      apart e = absurd (cc (sym free.free ∙ ap (λ (i : ℕ). (T.at i).node) (sym e) ∙ looked.node))

      own : (new_tree x given).at given.number
          ≡ record { generation = ((touch_place T h.number given.place now).at given.number).generation + 1; node = Some (new_file x given) }
      own = own_slot (touch_place T h.number given.place now) given.number _

      directory_node : ((new_tree x given).at h.number).node ≡ Some (opened given.place now x)
      directory_node =
          ap (λ (s : Slot). s.node) (at_other (touch_place T h.number given.place now) given.number h.number _ apart)
          ∙ ap (λ (s : Slot). s.node) (own_slot T h.number (record { generation = (T.at h.number).generation; node = option_map (opened given.place now) (T.at h.number).node }))
          ∙ ap (option_map (opened given.place now)) looked.node

  -- one was there
  old-there : (x : Node) (none : ℕ → Node → Outcome Made) (some : ℕ → Node → ℕ → Node → Outcome Made) → IsLooked c T h name none some x → (n : ℕ) (y : Node) → find T h.number name ≡ Some n → (T.at n).node ≡ Some y
      → is_made_by verifier y ≡ true
      → IsThere c T T h name verifier (record { generation = (T.at n).generation; node = told n y; directory = record { before = told h.number x; after = told h.number x } })
  old-there x none some looked n y found at same =
      let p = and_parts (is_file y.body) (is_verifier y.attributes.verifier verifier) same in
      record {
        x = x;
        looked = λ none some. record { node = looked.node; generation = looked.generation; kind = looked.kind; search = looked.search; is_name = looked.is_name };
        n = n;
        y = y;
        found = found;
        at = at;
        kind = p.0;
        verifier_is = verifier-is y.attributes.verifier verifier p.1;
        generation = refl;
        node = refl;
        directory_is = refl;
        once = inl refl;
      }

  abbrev pair : Result Made Status → Tree → Outcome Made
  pair r T2 = (r, T2)

  -- an outcome that is this one
  as_answered : (m m0 : Made) (T2 V : Tree) → pair (Ok m) T2 ≡ pair (Ok m0) V → (HasTree V → IsThere c T V h name verifier m0) → HasTree T2 → IsThere c T T2 h name verifier m
  as_answered m m0 T2 V e there tree =
      let q : Ok m ≡ Ok m0 = ap (λ (o : Outcome Made). o.0) e in
      let same : m ≡ m0 = cc in
      let trees : T2 ≡ V = ap (λ (o : Outcome Made). o.1) e in
      subst (λ (m : Made). IsThere c T T2 h name verifier m) (sym same) (subst (λ (T2 : Tree). IsThere c T T2 h name verifier m0) (sym trees) (there (subst HasTree trees tree)))

  is-there : (m : Made) (T2 : Tree) → HasTree T2 → MayTake T h.number room → (Ok m, T2) ≡ create_case c name (Exclusive verifier) room now T (target T h) → IsThere c T T2 h name verifier m
  is-there m T2 tree take is = by answered.x answered.looked (find T h.number name) refl answered.outcome
    where
      none : ℕ → Node → Outcome Made
      none = create_exclusive c name verifier room now T

      some : ℕ → Node → ℕ → Node → Outcome Made
      some = create_again verifier T

      answered : IsAnswered c T h name (create_exclusive c name verifier room now T) (create_again verifier T) m T2
      answered = looked-up c T h name (create_exclusive c name verifier room now T) (create_again verifier T) m T2 is

      no : (s : Status) → (Ok m, T2) ≡ refused s T → IsThere c T T2 h name verifier m
      no s e = absurd (cc (ap (λ (o : Outcome Made). o.0) e))

      of_room : (x : Node) → IsLooked c T h name (create_exclusive c name verifier room now T) (create_again verifier T) x → find T h.number name ≡ None → (o : Option Room) → MayTake T h.number o
          → (Ok m, T2) ≡ born T h.number x name o (exclusive_attributes c verifier x.attributes now) (file []) now → IsThere c T T2 h name verifier m
      of_room x looked missing None take e = no NoSpace e
      of_room x looked missing (Some given) take e = as_answered m _ T2 _ e (λ tree. new-there x given (create_exclusive c name verifier room now T) (create_again verifier T) looked missing take tree) tree

      of_right : (x : Node) → IsLooked c T h name (create_exclusive c name verifier room now T) (create_again verifier T) x → find T h.number name ≡ None → (b : Bool)
          → (Ok m, T2) ≡ allowed T b (born T h.number x name room (exclusive_attributes c verifier x.attributes now) (file []) now) → IsThere c T T2 h name verifier m
      of_right x looked missing false e = no NoAccess e
      of_right x looked missing true e = of_room x looked missing room take e

      of_file : (x : Node) → IsLooked c T h name (create_exclusive c name verifier room now T) (create_again verifier T) x → (n : ℕ) (y : Node) → find T h.number name ≡ Some n → (T.at n).node ≡ Some y → (b : Bool) → is_made_by verifier y ≡ b
          → (Ok m, T2) ≡ (if b then made_before T h.number x n y else refused Exists T) → IsThere c T T2 h name verifier m
      of_file x looked n y found at false same e = no Exists e
      of_file x looked n y found at true same e = as_answered m _ T2 T e (λ _. old-there x (create_exclusive c name verifier room now T) (create_again verifier T) looked n y found at same) tree

      by : (x : Node) → IsLooked c T h name (create_exclusive c name verifier room now T) (create_again verifier T) x → (o : Option ℕ) → find T h.number name ≡ o
          → (Ok m, T2) ≡ on_found T o (create_exclusive c name verifier room now T h.number x) (create_again verifier T h.number x) → IsThere c T T2 h name verifier m
      by x looked None missing e = of_right x looked missing (may_rename c x.attributes) e
      by x looked (Some n) found e =
          let y = find-some T h.number name n found in
          of_file x looked n y.0 found y.1 (is_made_by verifier y.0) refl
          (e ∙ ap (λ (o : Option Node). some_node o (create_exclusive c name verifier room now T h.number x) (create_again verifier T h.number x n)) y.1)

-- ── the laws ──

made-there : (h : Handle) (name : List ℕ) (verifier : ℕ) (c : Caller) (now : Time) (T T2 : Tree) (m : Made) → HasTree T → Op (Call.create h name (Exclusive verifier)) c now T (Reply.made (Ok m)) T2 → IsThere c T T2 h name verifier m
made-there h name verifier c now T T2 m tree (answers_create _ _ _ room _ _ _ _ _ take is) =
    is-there c T h name verifier room now m T2 (keeps-trees (Call.create h name (Exclusive verifier)) c now T T2 (Reply.made (Ok m)) tree (answers_create h name (Exclusive verifier) room c now T T2 (Ok m) take is)) take is

pub exclusive-makes : ExclusiveMakes
exclusive-makes h name verifier c now T T2 m tree op =
    let t = made-there h name verifier c now T T2 m tree op in
    record {
      kind = ap (λ (t : Told). t.kind) t.node ∙ file-kind t.y.body t.kind;
      verifier_is = ap (λ (t : Told). t.attributes.verifier) t.node ∙ t.verifier_is;
      found = t.found ∙ ap (λ (t : Told). Some t.number) (sym t.node);
      once = t.once;
    }

-- what an exclusive CREATE of any verifier comes to after it
comes-again : (h : Handle) (name : List ℕ) (verifier other : ℕ) (c : Caller) (later : Time) (T T2 T3 : Tree) (m : Made) (r : Result Made Status) (t : IsThere c T T2 h name verifier m)
    → Op (Call.create h name (Exclusive other)) c later T2 (Reply.made r) T3 → (r, T3) ≡ create_again other T2 h.number t.x t.n t.y
comes-again h name verifier other c later T T2 T3 m r t (answers_create _ _ _ room _ _ _ _ _ take is) =
    is ∙ found-there c T2 h name (create_exclusive c name other room later T2) (create_again other T2) t.x (t.looked (create_exclusive c name other room later T2) (create_again other T2)) t.n t.y t.found t.at

pub exclusive-again : ExclusiveAgain
exclusive-again h name verifier c now later T T2 T3 m r tree op again =
    let t = made-there h name verifier c now T T2 m tree op in
    let same = and_from (is_file t.y.body) (is_verifier t.y.attributes.verifier verifier) t.kind (ap (λ (o : Option ℕ). is_verifier o verifier) t.verifier_is ∙ eq-eqb verifier verifier refl) in
    let e = comes-again h name verifier verifier c later T T2 T3 m r t again ∙ ap (λ (b : Bool). if b then made_before T2 h.number t.x t.n t.y else refused Exists T2) same in
    (ap (λ (o : Outcome Made). o.0) e ∙ sym (λ i. Ok (record { generation = t.generation i; node = t.node i; directory = record { before = t.directory_is i; after = t.directory_is i } })), ap (λ (o : Outcome Made). o.1) e)

pub exclusive-other : ExclusiveOther
exclusive-other h name verifier other c now later T T2 T3 m r tree apart op again =
    let t = made-there h name verifier c now T T2 m tree op in
    let two =
    ap (λ (b : Bool). b && is_verifier t.y.attributes.verifier other) t.kind
    ∙ ap (λ (o : Option ℕ). is_verifier o other) t.verifier_is
    ∙ ne_eqb verifier other (λ q. apart (sym q)) in
    let e = comes-again h name verifier other c later T T2 T3 m r t again ∙ ap (λ (b : Bool). if b then made_before T2 h.number t.x t.n t.y else refused Exists T2) two in
    (ap (λ (o : Outcome Made). o.0) e, ap (λ (o : Outcome Made). o.1) e)

pub calls-give-verifiers : CallsGiveVerifiers
calls-give-verifiers call c now T T2 reply n y tree op none at = gives-verifier (known call c) c now T tree T2 (op-done call c now T T2 reply tree op).step n y none at
