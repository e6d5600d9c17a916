-- The entries of a directory come onto a page.
use Rattle.std.proofs.Common.{◌≡◌, ◌≢◌, ℕ, zero, suc, ◌+◌, ◌*◌, ◌<◌, ◌≤◌, Bool, true, false, cond, List, [], ◌∷◌, ◌++◌, map, Option, Some, None, refl, sym, ap, subst, ◌∙◌, arith}
use Rattle.std.specs.Prelude.{nat_lt}
use Rattle.std.proofs.lemmas.Bool.{lt-ltb, le-ltb, eq-eqb, ne_eqb}
use Rattle.std.proofs.lemmas.List.{map_push}
use Rattle.journal_tree.specs.Listing.{Item, line_of}
use Rattle.journal_treestore.specs.declared.entry.Entry.{Entry}
use Rattle.journal_treestore.specs.declared.inode.Head.{Head}
use Rattle.journal_treestore.specs.declared.inode.Inode.{Inode}
use Rattle.journal_treestore.specs.declared.inode.Inode.TheVariants.{Free, Used}
use Rattle.journal_treestore.specs.Inodes.{inode_from, name_from}
use Rattle.journal_treestore.specs.Entries.{entry_from, no_entry}
use Rattle.journal_treestore.specs.Views.{Seen, View, held_of, seen, slot_of, tree_of, entry_in}
use Rattle.journal_treestore.specs.Views.Seen.{used}
use Rattle.journal_treecalls.specs.declared.lines.Line.{Line}
use Rattle.journal_treecalls.specs.declared.lines.Room.{Room}
use Rattle.journal_treecalls.specs.declared.lines.Page.{Page}
use Rattle.journal_treecalls.specs.declared.seats.BlockNumbers.{BlockNumbers}
use Rattle.journal_treecalls.specs.Disks.{inode_seen, Learns}
use Rattle.journal_treecalls.specs.Seats.{number_of}
use Rattle.journal_treecalls.specs.Lines.{item_of, beside_of, left_after, with_line, Adds, Filled, filled_of, put_item, fill, AreTrue, Shows, item_by, item_at, item_from, items_in}
use Rattle.journal_treecalls.specs.Walks.{IsNodeLine, all_items, ShowsEntry, ShowsPlace, ShowsBytes, ShowsBlock, ShowsBlocks}
use Rattle.journal_treecalls.proofs.Learning.{learns-as, learns-then}
use Rattle.journal_treecalls.proofs.Cases.{told-is}

-- ── pages ──

fill-append : (f : Filled) (xs ys : List Item) → fill (fill f xs) ys ≡ fill f (xs ++ ys)
fill-append f [] ys = refl
fill-append f (x ∷ xs) ys = fill-append (put_item f x) xs ys

fill-full : (items is : List Item) → fill (record { items = items; room = None }) is ≡ record { items = items; room = None }
fill-full items [] = refl
fill-full items (i ∷ is) = fill-full items is

pub shows-none : (V : View) (p : Page) → Shows V p p []
shows-none V p = record { filled = refl; told = λ t. t }

pub shows-append : (V : View) (a b c : Page) (xs ys : List Item) → Shows V a b xs → Shows V b c ys → Shows V a c (xs ++ ys)
shows-append V a b c xs ys s t = record { filled = t.filled ∙ ap (λ f. fill f ys) s.filled ∙ fill-append (filled_of a) xs ys; told = λ d. t.told (s.told d) }

pub shows-full : (V : View) (p : Page) (is : List Item) → p.room ≡ None → Shows V p p is
shows-full V p is full = record { filled = here ∙ sym (fill-full (map item_of p.lines.items) is) ∙ ap (λ f. fill f is) (sym here); told = λ t. t }
  where
    here : filled_of p ≡ record { items = map item_of p.lines.items; room = None }
    here = λ i. record { items = map item_of p.lines.items; room = full i }

-- a line is added
pub shows-line : (V : View) (old new : Page) (l : Line) (i : Item) → Adds old new l → item_of l ≡ i → beside_of l ≡ line_of (tree_of V) i → Shows V old new (i ∷ [])
shows-line V old new l i adds is beside = record { filled = filled; told = told }
  where
    mapped : (r : Option Room) → map item_of (with_line r old.lines.items l) ≡ with_line r (map item_of old.lines.items) (item_of l)
    mapped None = refl
    mapped (Some r) = map_push item_of old.lines.items l

    filled : filled_of new ≡ put_item (filled_of old) i
    filled =
        (λ z. record { items = map item_of (adds.lines z); room = adds.room z })
        ∙ (λ z. record { items = mapped (left_after old.room (item_of l)) z; room = left_after old.room (item_of l) })
        ∙ ap (put_item (filled_of old)) is

    told : AreTrue V old.lines.items → AreTrue V new.lines.items
    told t = subst (AreTrue V) (sym adds.lines) (by (left_after old.room (item_of l)))
      where
        by : (r : Option Room) → AreTrue V (with_line r old.lines.items l)
        by None = t
        by (Some r) =
            map_push beside_of old.lines.items l
            ∙ (λ z. t z ++ ((beside ∙ ap (line_of (tree_of V)) (sym is)) z ∷ []))
            ∙ sym (map_push (λ l. line_of (tree_of V) (item_of l)) old.lines.items l)

-- ── an entry ──

pub entry-used : (first last : View → Type 0) (place n : ℕ) (bytes name : List ℕ) (x : Inode) (h : Head) (old new : Page) (l : Line) → Learns first last (λ V. V.inode n ≡ inode_seen bytes) → x ≡ inode_from bytes → x ≡ Used h → name ≡ name_from bytes → h.place ≡ place → IsNodeLine l (place + 3) n h name → Adds old new l
    → Learns first last (λ V. ShowsEntry V place n old new)
entry-used first last place n bytes name x h old new l k is kind named home line adds = learns-as first last _ _ k (λ V m at sound.
    let here : V.inode n ≡ used (held_of h (name_from bytes)) = at ∙ ap (λ x. seen x (name_from bytes)) (sym is ∙ kind) in
    subst (λ y. Shows V old new (item_by y place n)) (sym here) (
    subst (Shows V old new) (sym (ap (λ t. cond t (record { cookie = place + 3; name = name_from bytes; number = n } ∷ []) []) (eq-eqb h.place place home))) (shows-line V old new l (record { cookie = place + 3; name = name_from bytes; number = n }) adds
    (line.item ∙ ap (λ w. record { cookie = place + 3; name = w; number = n }) named)
    (line.beside
    ∙ (λ i. record { generation = h.generation; node = Some (sym (told-is V n (held_of h (name_from bytes)) (sound.inodes n (held_of h (name_from bytes)) here)) i) })
    ∙ ap (λ (y : Seen). record { generation = (slot_of V y).generation; node = Rattle.std.specs.Prelude.option_map (Rattle.journal_tree.specs.Calls.told n) (slot_of V y).node }) (sym here)))))

-- a second entry
pub entry-away : (first last : View → Type 0) (place n : ℕ) (bytes : List ℕ) (x : Inode) (h : Head) (p : Page) → Learns first last (λ V. V.inode n ≡ inode_seen bytes) → x ≡ inode_from bytes → x ≡ Used h → h.place ≢ place → Learns first last (λ V. ShowsEntry V place n p p)
entry-away first last place n bytes x h p k is kind away = learns-as first last _ _ k (λ V m at sound.
    subst (λ y. Shows V p p (item_by y place n)) (sym (at ∙ ap (λ x. seen x (name_from bytes)) (sym is ∙ kind))) (
    subst (Shows V p p) (sym (ap (λ t. cond t (record { cookie = place + 3; name = name_from bytes; number = n } ∷ []) []) (ne_eqb h.place place away))) (shows-none V p)))

pub entry-free : (first last : View → Type 0) (place n g : ℕ) (bytes : List ℕ) (x : Inode) (p : Page) → Learns first last (λ V. V.inode n ≡ inode_seen bytes) → x ≡ inode_from bytes → x ≡ Free g → Learns first last (λ V. ShowsEntry V place n p p)
entry-free first last place n g bytes x p k is kind = learns-as first last _ _ k (λ V m at sound.
    subst (λ y. Shows V p p (item_by y place n)) (sym (at ∙ ap (λ x. seen x (name_from bytes)) (sym is ∙ kind))) (shows-none V p))

-- ── a place ──

none-before : (V : View) (begin place : ℕ) (e : Entry) → place < begin → item_from V begin place e ≡ []
none-before V begin place e low = ap (λ t. cond t [] (item_at V place e)) (lt-ltb place begin low)

none-there : (V : View) (begin place : ℕ) (e : Entry) → e.number ≡ 0 → item_from V begin place e ≡ []
none-there V begin place e none = ap (λ t. cond (nat_lt place begin) [] (cond t [] (item_by (V.inode e.number) place e.number))) (eq-eqb e.number 0 none) ∙ by (nat_lt place begin)
  where
    by : (t : Bool) → cond {A = List Item} t [] [] ≡ []
    by true = refl
    by false = refl

one-there : (V : View) (begin place : ℕ) (e : Entry) → begin ≤ place → e.number ≢ 0 → item_from V begin place e ≡ item_by (V.inode e.number) place e.number
one-there V begin place e past some = ap (λ t. cond t [] (item_at V place e)) (le-ltb place begin past) ∙ ap (λ t. cond t [] (item_by (V.inode e.number) place e.number)) (ne_eqb e.number 0 some)

pub place-before : (may : View → Type 0) (begin place : ℕ) (e : Entry) (p : Page) → place < begin → Learns may may (λ V. ShowsPlace V begin place e p p)
place-before may begin place e p low = record { before = λ V m. m; now = λ V m sound. subst (Shows V p p) (sym (none-before V begin place e low)) (shows-none V p) }

pub place-full : (may : View → Type 0) (begin place : ℕ) (e : Entry) (p : Page) → p.room ≡ None → Learns may may (λ V. ShowsPlace V begin place e p p)
place-full may begin place e p full = record { before = λ V m. m; now = λ V m sound. shows-full V p (item_from V begin place e) full }

pub place-entry : (first last : View → Type 0) (begin place : ℕ) (e : Entry) (old new : Page) → begin ≤ place → e.number ≢ 0 → Learns first last (λ V. ShowsEntry V place e.number old new) → Learns first last (λ V. ShowsPlace V begin place e old new)
place-entry first last begin place e old new past some l = learns-as first last _ _ l (λ V m s sound. subst (Shows V old new) (sym (one-there V begin place e past some)) (s sound))

-- ── a block ──

pub items-zero : (V : View) (begin b j : ℕ) → items_in V begin b j 0 ≡ []
unfolding items_in
items-zero V begin b j = refl

items-more : (V : View) (begin b j at : ℕ) → items_in V begin b j (suc at) ≡ items_in V begin b j at ++ item_from V begin (512 * j + at) (entry_in V b at)
unfolding items_in
items-more V begin b j at = refl

items-of-none : (V : View) (begin b j at : ℕ) → ((k : ℕ) → k < at → item_from V begin (512 * j + k) (entry_in V b k) ≡ []) → items_in V begin b j at ≡ []
items-of-none V begin b j zero none = items-zero V begin b j
items-of-none V begin b j (suc at) none =
    items-more V begin b j at
    ∙ ap (λ xs. xs ++ item_from V begin (512 * j + at) (entry_in V b at)) (items-of-none V begin b j at (λ k low. none k (omega (arith, low))))
    ∙ none at (omega arith)

pub bytes-begin : (may : View → Type 0) (begin : ℕ) (v : List ℕ) (j : ℕ) (p : Page) → Learns may may (λ V. ShowsBytes V begin v j 0 p p)
bytes-begin may begin v j p = record { before = λ V m. m; now = λ V m sound b some is. subst (Shows V p p) (sym (items-zero V begin b j)) (shows-none V p) }

pub bytes-more : (first mid last : View → Type 0) (begin : ℕ) (v : List ℕ) (j at place : ℕ) (e : Entry) (a b c : Page) → Learns first mid (λ V. ShowsBytes V begin v j at a b) → e ≡ entry_from v at → place ≡ 512 * j + at → Learns mid last (λ V. ShowsPlace V begin place e b c) → Learns first last (λ V. ShowsBytes V begin v j (at + 1) a c)
bytes-more first mid last begin v j at place e a b c l is place_is k = learns-then first mid last _ _ l k _ (λ V m s t sound block some block_is.
    let entry : e ≡ entry_in V block at = is ∙ ap (λ w. entry_from w at) (sym block_is) ∙ sym (ap (λ t. cond t no_entry (entry_from (V.block block) at)) (ne_eqb block 0 some)) in
    subst (λ at1. Shows V a c (items_in V begin block j at1)) (let e : suc at ≡ at + 1 = omega arith in e) (
    subst (Shows V a c) (sym (items-more V begin block j at)) (shows-append V a b c (items_in V begin block j at) (item_from V begin (512 * j + at) (entry_in V block at)) (s sound block some block_is)
    (subst (λ (e : Entry). Shows V b c (item_from V begin (512 * j + at) e)) entry (subst (λ place. Shows V b c (item_from V begin place e)) place_is (t sound))))))

pub block-none : (may : View → Type 0) (begin b j : ℕ) (p : Page) → b ≡ 0 → Learns may may (λ V. ShowsBlock V begin b j p p)
block-none may begin b j p none = record { before = λ V m. m; now = λ V m sound. subst (Shows V p p) (sym (items-of-none V begin b j 512 (λ k low. none-there V begin (512 * j + k) (entry_in V b k) (ap (λ t. Entry.number (cond t no_entry (entry_from (V.block b) k))) (eq-eqb b 0 none))))) (shows-none V p) }

pub block-before : (may : View → Type 0) (begin b j : ℕ) (p : Page) → 512 * (j + 1) ≤ begin → Learns may may (λ V. ShowsBlock V begin b j p p)
block-before may begin b j p far = record { before = λ V m. m; now = λ V m sound. subst (Shows V p p) (sym (items-of-none V begin b j 512 (λ k low. none-before V begin (512 * j + k) (entry_in V b k) (omega (arith, low, far))))) (shows-none V p) }

pub block-full : (may : View → Type 0) (begin b j : ℕ) (p : Page) → p.room ≡ None → Learns may may (λ V. ShowsBlock V begin b j p p)
block-full may begin b j p full = record { before = λ V m. m; now = λ V m sound. shows-full V p (items_in V begin b j 512) full }

pub block-shown : (first mid last : View → Type 0) (begin b j : ℕ) (v w : List ℕ) (old new : Page) → b ≢ 0 → w ≡ v → Learns first mid (λ V. V.block b ≡ v) → Learns mid last (λ V. ShowsBytes V begin w j 512 old new) → Learns first last (λ V. ShowsBlock V begin b j old new)
block-shown first mid last begin b j v w old new some same l k = learns-then first mid last _ _ l k _ (λ V m is s sound. s sound b some (is ∙ sym same))

-- ── all blocks ──

pub all-zero : (V : View) (begin : ℕ) (number : ℕ → ℕ) → all_items V begin number 0 ≡ []
unfolding all_items
all-zero V begin number = refl

pub all-more : (V : View) (begin : ℕ) (number : ℕ → ℕ) (j : ℕ) → all_items V begin number (suc j) ≡ all_items V begin number j ++ items_in V begin (number j) j 512
unfolding all_items
all-more V begin number j = refl

-- the same numbers
pub all-same : (V : View) (begin : ℕ) (f g : ℕ → ℕ) → ((j : ℕ) → f j ≡ g j) → (j : ℕ) → all_items V begin f j ≡ all_items V begin g j
all-same V begin f g same zero = all-zero V begin f ∙ sym (all-zero V begin g)
all-same V begin f g same (suc j) =
    all-more V begin f j
    ∙ (λ i. all-same V begin f g same j i ++ items_in V begin (same j i) j 512)
    ∙ sym (all-more V begin g j)

pub blocks-begin : (may : View → Type 0) (begin : ℕ) (numbers : BlockNumbers) (p : Page) → Learns may may (λ V. ShowsBlocks V begin numbers 0 p p)
blocks-begin may begin numbers p = record { before = λ V m. m; now = λ V m sound. subst (Shows V p p) (sym (all-zero V begin (number_of numbers))) (shows-none V p) }

pub blocks-more : (first mid last : View → Type 0) (begin : ℕ) (numbers : BlockNumbers) (j n : ℕ) (a b c : Page) → n ≡ number_of numbers j → Learns first mid (λ V. ShowsBlocks V begin numbers j a b) → Learns mid last (λ V. ShowsBlock V begin n j b c) → Learns first last (λ V. ShowsBlocks V begin numbers (j + 1) a c)
blocks-more first mid last begin numbers j n a b c is l k = learns-then first mid last _ _ l k _ (λ V m s t sound.
    subst (λ j1. Shows V a c (all_items V begin (number_of numbers) j1)) (let e : suc j ≡ j + 1 = omega arith in e) (
    subst (Shows V a c) (sym (all-more V begin (number_of numbers) j)) (shows-append V a b c (all_items V begin (number_of numbers) j) (items_in V begin (number_of numbers j) j 512) (s sound)
    (subst (λ n. Shows V b c (items_in V begin n j 512)) is (t sound)))))

pub items-are-more : (V : View) (begin b j at : ℕ) → items_in V begin b j (suc at) ≡ items_in V begin b j at ++ item_from V begin (512 * j + at) (entry_in V b at)
items-are-more V begin b j at = items-more V begin b j at
