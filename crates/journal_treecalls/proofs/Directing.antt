-- READDIR and READDIRPLUS.
use Rattle.std.proofs.Common.{◌≡◌, ◌≢◌, ℕ, zero, suc, ◌-◌, ◌<◌, min, Bool, true, false, not, cond, List, [], ◌∷◌, ◌++◌, length, take, map, Option, Some, None, Ok, Err, refl, sym, ap, subst, ◌∙◌, arith}
use Rattle.std.specs.Prelude.{Result, ◌==◌, ◌&&◌, nat_le, nat_lt, is_some}
use Rattle.std.proofs.lemmas.Bool.{eqb-true, eq-eqb, ne_eqb, lt-ltb, ltb-true, leb-false, and_parts, and_from}
use Rattle.std.proofs.lemmas.List.{length-take-le}
use Rattle.journal_tree.specs.declared.time.Time.{Time}
use Rattle.journal_tree.specs.declared.reply.Handle.{Handle}
use Rattle.journal_tree.specs.declared.reply.Kind.{Kind}
use Rattle.journal_tree.specs.declared.reply.Kind.TheVariants.{Directory, File, Link}
use Rattle.journal_tree.specs.declared.reply.Told.{Told}
use Rattle.journal_tree.specs.declared.caller.Caller.{Caller}
use Rattle.journal_tree.specs.declared.status.Status.{Status}
use Rattle.journal_tree.specs.declared.status.Status.TheVariants.{NoAccess, NotDirectory, Stale, TooSmall}
use Rattle.journal_tree.specs.Trees.{Node, is_directory}
use Rattle.journal_tree.specs.Rights.{may_read}
use Rattle.journal_tree.specs.Calls.{Outcome, refused, target, told, in_directory, allowed}
use Rattle.journal_tree.specs.Calls.Target.{gone}
use Rattle.journal_tree.specs.Listing.{Item, Page as ListPage, Listed, ListedPlus, line_of, with_page, items_above, entries, dot_item, dot_dot_item, fitting, line_bytes, plus_bytes}
use Rattle.journal_tree.specs.Op.{Op}
use Rattle.journal_tree.specs.Op.Call.{readdir, readdirplus}
use Rattle.journal_tree.specs.Op.Reply.{listed, listed_plus}
use Rattle.journal_tree.specs.Op.Op.{answers_readdir, answers_readdirplus}
use Rattle.journal_treestore.specs.Views.{View, body_of, node_of, tree_of}
use Rattle.journal_treestore.specs.Views.Seen.{used}
use Rattle.journal_treestore.specs.Sound.{IsSoundView}
use Rattle.journal_treecalls.specs.declared.node.Record.{Record}
use Rattle.journal_treecalls.specs.declared.lines.Line.{Line}
use Rattle.journal_treecalls.specs.declared.lines.Room.{Room}
use Rattle.journal_treecalls.specs.declared.listing.ListReply.{ListReply}
use Rattle.journal_treecalls.specs.Disks.{Write, Learns, Does}
use Rattle.journal_treecalls.specs.Targets.{held, told_of, IsNode, block_of}
use Rattle.journal_treecalls.specs.Seats.{block_count}
use Rattle.journal_treecalls.specs.Replies.{number_above}
use Rattle.journal_treecalls.specs.Lines.{item_of, beside_of, AreTrue}
use Rattle.journal_treecalls.specs.Walks.{all_items}
use Rattle.journal_treecalls.specs.Listings.{listing_by, listing_status, page_of, listed_told, listed_plus_told, IsReplyOf, dot_items, dot_dot_items, items_after, IsListing, Lists}
use Rattle.journal_treecalls.specs.Listings.ListsNode.{kept, listing}
use Rattle.journal_treecalls.specs.Listings.Lists.{stale, of_node}
use Rattle.journal_treecalls.proofs.Learning.{does-reads}
use Rattle.journal_treecalls.proofs.Learned.{AreSound}
use Rattle.journal_treecalls.proofs.Cases.{target-node, node-told}
use Rattle.journal_treecalls.proofs.Showing.{entries-are, count_by, is_full, IsFilled, fill-is, count-plain, count-plus}

-- ── the lines of the definition ──

module _ (V : View) (sound : IsSoundView V) (d : ℕ) (r : Record) (is : V.inode d ≡ used (held r)) (kind : r.head.kind ≡ Directory) where
  abbrev x : Node
  x = node_of V (held r)

  places : (cookie : ℕ) → entries (tree_of V) d cookie (Rattle.journal_tree.specs.Listing.all_places (body_of V r.head.kind (held r)) - cookie) ≡ all_items V cookie (λ j. (block_of V r.head j).number) (block_count r.head)
  places cookie = ap (λ k. entries (tree_of V) d cookie (Rattle.journal_tree.specs.Listing.all_places (body_of V k (held r)) - cookie)) kind ∙ sym (entries-are V sound d r is kind cookie)

  pub lines-are : (cookie : ℕ) → items_above (tree_of V) d (node_of V (held r)) cookie ≡ items_after V d r cookie
  lines-are zero =
      ap (λ n. dot_item d ∷ dot_dot_item d (node_of V (held r)) ∷ entries (tree_of V) d 0 n) (let e : Rattle.journal_tree.specs.Listing.all_places (body_of V r.head.kind (held r)) ≡ Rattle.journal_tree.specs.Listing.all_places (body_of V r.head.kind (held r)) - 0 = omega arith in e)
      ∙ ap (λ es. dot_item d ∷ dot_dot_item d (node_of V (held r)) ∷ es) (places 0)
  lines-are (suc zero) =
      ap (λ n. dot_dot_item d (node_of V (held r)) ∷ entries (tree_of V) d 0 n) (let e : Rattle.journal_tree.specs.Listing.all_places (body_of V r.head.kind (held r)) ≡ Rattle.journal_tree.specs.Listing.all_places (body_of V r.head.kind (held r)) - 0 = omega arith in e)
      ∙ ap (λ es. dot_dot_item d (node_of V (held r)) ∷ es) (places 0)
  lines-are (suc (suc p)) =
      places p
      ∙ ap (λ q. all_items V q (λ j. (block_of V r.head j).number) (block_count r.head)) (let e : p ≡ suc (suc p) - 2 = omega arith in e)
      ∙ (λ i. none i ++ others i ++ all_items V (suc (suc p) - 2) (λ j. (block_of V r.head j).number) (block_count r.head))
    where
      none : [] ≡ dot_items d (suc (suc p))
      none = sym (ap (λ t. cond t (dot_item d ∷ []) []) (ne_eqb (suc (suc p)) 0 (λ e. absurd (omega (arith, e)))))

      others : [] ≡ dot_dot_items (number_above d r) (suc (suc p))
      others = sym (ap (λ t. cond t [] (record { cookie = 2; name = 46 ∷ 46 ∷ []; number = number_above d r } ∷ [])) (lt-ltb 1 (suc (suc p)) (omega arith)))

-- ── the page ──

record IsTold (V : View) (xs : List Item) (n : ℕ) (lines : List Line) (room : Option Room) : Type 0 where
  items : map item_of lines ≡ take n xs
  full : is_full room ≡ not (nat_le (length xs) n)
  beside : AreTrue V lines

module _ {A : Type 0} (V : View) (xs : List Item) (n : ℕ) (answer : ListPage → A) where
  page-none : (lines : List Line) (room : Option Room) → IsTold V xs n lines room → room ≡ None → lines ≡ [] → with_page (tree_of V) xs n answer ≡ refused TooSmall (tree_of V)
  page-none lines room t full bare = ap (λ b. cond b (refused TooSmall (tree_of V)) (Ok (answer (record { items = take n xs; is_end = nat_le (length xs) n })), tree_of V)) (and_from (nat_lt 0 (length xs)) (n == 0) (lt-ltb 0 (length xs) (omega (arith, more))) (eq-eqb n 0 zero_is))
    where
      not-all : nat_le (length xs) n ≡ false
      not-all = by (nat_le (length xs) n) (sym t.full ∙ ap is_full full)
        where
          by : (b : Bool) → not b ≡ true → b ≡ false
          by false e = refl
          by true e = absurd (cc (e))

      more : n < length xs
      more = leb-false (length xs) n not-all

      zero_is : n ≡ 0
      zero_is = sym (length-take-le n xs (omega (arith, more))) ∙ ap length (sym t.items ∙ ap (map item_of) bare)

  page-some : (lines : List Line) (room : Option Room) → IsTold V xs n lines room → (room ≡ None → lines ≢ []) → with_page (tree_of V) xs n answer ≡ (Ok (answer (record { items = map item_of lines; is_end = is_some room })), tree_of V)
  page-some lines room t some =
      ap (λ b. cond b (refused TooSmall (tree_of V)) (Ok (answer (record { items = take n xs; is_end = nat_le (length xs) n })), tree_of V)) (not-small (nat_lt 0 (length xs) && n == 0) refl)
      ∙ (λ i. (Ok (answer (record { items = sym t.items i; is_end = ends room t.full i })), tree_of V))
    where
      ends : (room : Option Room) → is_full room ≡ not (nat_le (length xs) n) → nat_le (length xs) n ≡ is_some room
      ends None e = by (nat_le (length xs) n) e
        where
          by : (b : Bool) → true ≡ not b → b ≡ false
          by false e = refl
          by true e = absurd (cc (e))
      ends (Some r) e = by (nat_le (length xs) n) e
        where
          by : (b : Bool) → false ≡ not b → b ≡ true
          by true e = refl
          by false e = absurd (cc (e))

      no-lines : (lines : List Line) → map item_of lines ≡ [] → lines ≡ []
      no-lines [] e = refl
      no-lines (l ∷ ls) e = absurd (cc (e))

      not-small : (b : Bool) → (nat_lt 0 (length xs) && n == 0) ≡ b → b ≡ false
      not-small false e = refl
      not-small true e =
          let p = and_parts (nat_lt 0 (length xs)) (n == 0) e in
          let some_lines = ltb-true 0 (length xs) p.0 in
          let none = eqb-true n 0 p.1 in
          absurd (some (full-room room (t.full ∙ ap not (Rattle.std.proofs.lemmas.Bool.lt-leb (length xs) n (omega (arith, some_lines, none))))) (no-lines lines (t.items ∙ ap (λ n. take n xs) none)))
        where
          full-room : (room : Option Room) → is_full room ≡ true → room ≡ None
          full-room None e = refl
          full-room (Some r) e = absurd (cc (e))

-- what a listing has of the definition's lines
listing-told : (V : View) (d : ℕ) (r : Record) (cookie : ℕ) (room : Room) (reply : Result ListReply Status) (k : IsListing V d r cookie room reply) → IsTold V (items_after V d r cookie) (count_by room (items_after V d r cookie)) k.page.lines.items k.page.room
listing-told V d r cookie room reply k = record {
  items = ap (λ f. Rattle.journal_treecalls.specs.Lines.Filled.items f) page-is ∙ f.items_are;
  full = ap (λ f. is_full (Rattle.journal_treecalls.specs.Lines.Filled.room f)) page-is ∙ f.full;
  beside = k.shown.told (subst (AreTrue V) (sym k.bare) refl);
}
  where
    f : IsFilled (Rattle.journal_treecalls.specs.Lines.fill (record { items = []; room = Some room }) (items_after V d r cookie)) [] (count_by room (items_after V d r cookie)) (items_after V d r cookie)
    f = fill-is [] room (items_after V d r cookie)

    page-is : Rattle.journal_treecalls.specs.Lines.filled_of k.page ≡ Rattle.journal_treecalls.specs.Lines.fill (record { items = []; room = Some room }) (items_after V d r cookie)
    page-is = k.shown.filled ∙ (λ i. Rattle.journal_treecalls.specs.Lines.fill (record { items = map item_of (k.bare i); room = k.all i }) (items_after V d r cookie))

-- ── the calls ──

module _ (V : View) (h : Handle) (c : Caller) (cookie : ℕ) (now : Time) where
  at-stale : {A : Type 0} (f : ℕ → Node → Outcome A) → target (tree_of V) h ≡ gone → in_directory (tree_of V) (target (tree_of V) h) (λ d x. allowed (tree_of V) (may_read c x.attributes) (f d x)) ≡ refused Stale (tree_of V)
  at-stale f g = ap (λ t. in_directory (tree_of V) t (λ d x. allowed (tree_of V) (may_read c x.attributes) (f d x))) g

  module _ (r : Record) (sound : IsSoundView V) (node : IsNode V h r) where
    at-kind : {A : Type 0} (f : ℕ → Node → Outcome A) → in_directory (tree_of V) (target (tree_of V) h) (λ d x. allowed (tree_of V) (may_read c x.attributes) (f d x))
        ≡ cond (is_directory (body_of V r.head.kind (held r))) (cond (may_read c r.head.attributes) (f h.number (node_of V (held r))) (refused NoAccess (tree_of V))) (refused NotDirectory (tree_of V))
    at-kind f = ap (λ t. in_directory (tree_of V) t (λ d x. allowed (tree_of V) (may_read c x.attributes) (f d x))) (target-node V h r node)

    at-refused : {A : Type 0} (f : ℕ → Node → Outcome A) (status : Status) → listing_status c r.head ≡ Some status → in_directory (tree_of V) (target (tree_of V) h) (λ d x. allowed (tree_of V) (may_read c x.attributes) (f d x)) ≡ refused status (tree_of V)
    at-refused f status why = at-kind f ∙ by r.head.kind (may_read c r.head.attributes) why
      where
        by : (k : Kind) (may : Bool) → listing_by k may ≡ Some status → cond (is_directory (body_of V k (held r))) (cond may (f h.number (node_of V (held r))) (refused NoAccess (tree_of V))) (refused NotDirectory (tree_of V)) ≡ refused status (tree_of V)
        by File may w = ap (λ s. refused s (tree_of V)) (cc)
        by Link may w = ap (λ s. refused s (tree_of V)) (cc)
        by Directory true w = absurd (cc (w))
        by Directory false w = ap (λ s. refused s (tree_of V)) (cc)

    module _ (on : listing_status c r.head ≡ None) where
      passed : (r.head.kind ≡ Directory) × (may_read c r.head.attributes ≡ true)
      passed = by r.head.kind (may_read c r.head.attributes) on
        where
          by : (k : Kind) (may : Bool) → listing_by k may ≡ None → (k ≡ Directory) × (may ≡ true)
          by File may w = absurd (cc (w))
          by Link may w = absurd (cc (w))
          by Directory true w = (refl, refl)
          by Directory false w = absurd (cc (w))

      at-listing : {A : Type 0} (f : ℕ → Node → Outcome A) → in_directory (tree_of V) (target (tree_of V) h) (λ d x. allowed (tree_of V) (may_read c x.attributes) (f d x)) ≡ f h.number (node_of V (held r))
      at-listing f =
          at-kind f
          ∙ ap (λ k. cond (is_directory (body_of V k (held r))) (cond (may_read c r.head.attributes) (f h.number (node_of V (held r))) (refused NoAccess (tree_of V))) (refused NotDirectory (tree_of V))) passed.0
          ∙ ap (λ b. cond b (f h.number (node_of V (held r))) (refused NoAccess (tree_of V))) passed.1

      told-directory : told h.number (node_of V (held r)) ≡ told_of h.number r.head
      told-directory = node-told V h r sound node

      lines : items_above (tree_of V) h.number (node_of V (held r)) cookie ≡ items_after V h.number r cookie
      lines = lines-are V sound h.number r node.is passed.0 cookie

      -- whatever is answered of a page
      module _ {A : Type 0} (room : Room) (reply : Result ListReply Status) (k : IsListing V h.number r cookie room reply) (answer : Told → ListPage → A) (count : ℕ) (count_is : count_by room (items_above (tree_of V) h.number (node_of V (held r)) cookie) ≡ count) where
        page-is : with_page (tree_of V) (items_above (tree_of V) h.number (node_of V (held r)) cookie) count (answer (told h.number (node_of V (held r))))
            ≡ with_page (tree_of V) (items_after V h.number r cookie) (count_by room (items_after V h.number r cookie)) (answer (told_of h.number r.head))
        page-is = λ i. with_page (tree_of V) (lines i) ((sym count_is ∙ ap (count_by room) lines) i) (answer (told-directory i))

        page-err : (status : Status) → IsReplyOf (told_of h.number r.head) k.page (Err status) → with_page (tree_of V) (items_above (tree_of V) h.number (node_of V (held r)) cookie) count (answer (told h.number (node_of V (held r)))) ≡ refused status (tree_of V)
        page-err status w =
            page-is
            ∙ page-none V (items_after V h.number r cookie) (count_by room (items_after V h.number r cookie)) (answer (told_of h.number r.head)) k.page.lines.items k.page.room (listing-told V h.number r cookie room reply k) w.1 w.2
            ∙ ap (λ s. refused s (tree_of V)) (sym w.0)

        page-ok : (l : ListReply) → IsReplyOf (told_of h.number r.head) k.page (Ok l) → with_page (tree_of V) (items_above (tree_of V) h.number (node_of V (held r)) cookie) count (answer (told h.number (node_of V (held r)))) ≡ (Ok (answer l.directory (page_of l)), tree_of V)
        page-ok l w =
            page-is
            ∙ page-some V (items_after V h.number r cookie) (count_by room (items_after V h.number r cookie)) (answer (told_of h.number r.head)) k.page.lines.items k.page.room (listing-told V h.number r cookie room reply k) w.3
            ∙ (λ i. (Ok (answer (sym w.0 i) (record { items = map item_of (sym w.1 i); is_end = sym w.2 i })), tree_of V))

-- READDIR
module _ (V : View) (h : Handle) (c : Caller) (cookie most : ℕ) (now : Time) (sound : IsSoundView V) where
  abbrev room : Room
  room = record { names = most - 104; bytes = 0; is_plus = false }

  abbrev answer : Told → ListPage → Listed
  answer = λ t p. record { directory = t; page = p }

  abbrev rest : ℕ → Node → Outcome Listed
  rest = λ d x. with_page (tree_of V) (items_above (tree_of V) d x cookie) (fitting line_bytes (most - 104) (items_above (tree_of V) d x cookie)) (λ page. record { directory = told d x; page = page })

  pub readdir-op : (reply : Result ListReply Status) → Lists V c h cookie (record { names = most - 104; bytes = 0; is_plus = false }) reply → Op (readdir h cookie most) c now (tree_of V) (listed (listed_told reply)) (tree_of V)
  readdir-op _ (stale g) = answers_readdir h cookie most c now (tree_of V) (tree_of V) (Err Stale) (sym (at-stale V h c cookie now rest g))
  readdir-op _ (of_node r _ node (kept status why)) = answers_readdir h cookie most c now (tree_of V) (tree_of V) (Err status) (sym (at-refused V h c cookie now r sound node rest status why))
  readdir-op _ (of_node r reply node (listing _ on lists)) = by reply (lists sound node.is)
    where
      by : (reply : Result ListReply Status) → IsListing V h.number r cookie (record { names = most - 104; bytes = 0; is_plus = false }) reply → Op (readdir h cookie most) c now (tree_of V) (listed (listed_told reply)) (tree_of V)
      by (Err status) k = answers_readdir h cookie most c now (tree_of V) (tree_of V) (Err status) (sym (
          at-listing V h c cookie now r sound node on rest
          ∙ page-err V h c cookie now r sound node on (record { names = most - 104; bytes = 0; is_plus = false }) (Err status) k answer _ (count-plain (most - 104) 0 (items_above (tree_of V) h.number (node_of V (held r)) cookie)) status k.told))
      by (Ok l) k = answers_readdir h cookie most c now (tree_of V) (tree_of V) (listed_told (Ok l)) (sym (
          at-listing V h c cookie now r sound node on rest
          ∙ page-ok V h c cookie now r sound node on (record { names = most - 104; bytes = 0; is_plus = false }) (Ok l) k answer _ (count-plain (most - 104) 0 (items_above (tree_of V) h.number (node_of V (held r)) cookie)) l k.told))

-- READDIRPLUS
module _ (V : View) (h : Handle) (c : Caller) (cookie names most : ℕ) (now : Time) (sound : IsSoundView V) where
  abbrev plus_answer : Told → ListPage → ListedPlus
  plus_answer = λ t p. record { directory = t; page = p; lines = map (line_of (tree_of V)) p.items }

  abbrev plus_rest : ℕ → Node → Outcome ListedPlus
  plus_rest = λ d x. with_page (tree_of V) (items_above (tree_of V) d x cookie)
      (min (fitting line_bytes names (items_above (tree_of V) d x cookie)) (fitting plus_bytes (most - 104) (items_above (tree_of V) d x cookie)))
      (λ page. record { directory = told d x; page = page; lines = map (line_of (tree_of V)) page.items })

  map-map : (ls : List Line) → map (line_of (tree_of V)) (map item_of ls) ≡ map (λ l. line_of (tree_of V) (item_of l)) ls
  map-map [] = refl
  map-map (l ∷ ls) = ap (λ xs. line_of (tree_of V) (item_of l) ∷ xs) (map-map ls)

  pub readdirplus-op : (reply : Result ListReply Status) → Lists V c h cookie (record { names = names; bytes = most - 104; is_plus = true }) reply → Op (readdirplus h cookie names most) c now (tree_of V) (listed_plus (listed_plus_told reply)) (tree_of V)
  readdirplus-op _ (stale g) = answers_readdirplus h cookie names most c now (tree_of V) (tree_of V) (Err Stale) (sym (at-stale V h c cookie now plus_rest g))
  readdirplus-op _ (of_node r _ node (kept status why)) = answers_readdirplus h cookie names most c now (tree_of V) (tree_of V) (Err status) (sym (at-refused V h c cookie now r sound node plus_rest status why))
  readdirplus-op _ (of_node r reply node (listing _ on lists)) = by reply (lists sound node.is)
    where
      by : (reply : Result ListReply Status) → IsListing V h.number r cookie (record { names = names; bytes = most - 104; is_plus = true }) reply → Op (readdirplus h cookie names most) c now (tree_of V) (listed_plus (listed_plus_told reply)) (tree_of V)
      by (Err status) k = answers_readdirplus h cookie names most c now (tree_of V) (tree_of V) (Err status) (sym (
          at-listing V h c cookie now r sound node on plus_rest
          ∙ page-err V h c cookie now r sound node on (record { names = names; bytes = most - 104; is_plus = true }) (Err status) k plus_answer _ (count-plus names (most - 104) (items_above (tree_of V) h.number (node_of V (held r)) cookie)) status k.told))
      by (Ok l) k = answers_readdirplus h cookie names most c now (tree_of V) (tree_of V) (listed_plus_told (Ok l)) (sym (
          at-listing V h c cookie now r sound node on plus_rest
          ∙ page-ok V h c cookie now r sound node on (record { names = names; bytes = most - 104; is_plus = true }) (Ok l) k plus_answer _ (count-plus names (most - 104) (items_above (tree_of V) h.number (node_of V (held r)) cookie)) l k.told
          ∙ ap (λ ls. (Ok (record { directory = l.directory; page = page_of l; lines = ls }), tree_of V)) (map-map l.lines.items ∙ sym beside)))
        where
          beside : map beside_of l.lines.items ≡ map (λ l. line_of (tree_of V) (item_of l)) l.lines.items
          beside = subst (AreTrue V) (sym k.told.1) (listing-told V h.number r cookie (record { names = names; bytes = most - 104; is_plus = true }) (Ok l) k).beside

module _ (old new : View → Type 0) (sound : AreSound new) (ws : List Write) (none : ws ≡ []) (h : Handle) (c : Caller) (cookie : ℕ) (now : Time) (reply : Result ListReply Status) where
  pub readdir-does : (most names : ℕ) → names ≡ most - 104 → Learns old new (λ V. Lists V c h cookie (record { names = names; bytes = 0; is_plus = false }) reply) → Does new ws (readdir h cookie most) c now (listed (listed_told reply))
  readdir-does most names is l = does-reads new ws (readdir h cookie most) c now (listed (listed_told reply)) none sound (λ V m.
      readdir-op V h c cookie most now (sound V m) reply (subst (λ names. Lists V c h cookie (record { names = names; bytes = 0; is_plus = false }) reply) is (l.now V m)))

  pub readdirplus-does : (names most bytes : ℕ) → bytes ≡ most - 104 → Learns old new (λ V. Lists V c h cookie (record { names = names; bytes = bytes; is_plus = true }) reply) → Does new ws (readdirplus h cookie names most) c now (listed_plus (listed_plus_told reply))
  readdirplus-does names most bytes is l = does-reads new ws (readdirplus h cookie names most) c now (listed_plus (listed_plus_told reply)) none sound (λ V m.
      readdirplus-op V h c cookie names most now (sound V m) reply (subst (λ bytes. Lists V c h cookie (record { names = names; bytes = bytes; is_plus = true }) reply) is (l.now V m)))
