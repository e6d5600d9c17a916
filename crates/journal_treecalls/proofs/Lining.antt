-- Lines, and what a listing learns of them step by step.
use Rattle.std.proofs.Common.{◌≡◌, ◌≢◌, ℕ, ◌+◌, ◌-◌, ◌≤◌, true, cond, List, [], ◌∷◌, ◌++◌, length, take, drop, replicate, Option, Some, None, Ok, Err, refl, sym, ap, subst, ◌∙◌}
use Rattle.std.specs.Prelude.{Result, is_some, option_map}
use Rattle.std.proofs.lemmas.Bool.{eq-eqb, ne_eqb, le-ltb}
use Rattle.std.proofs.lemmas.List.{take_at}
use Rattle.journal_tree.specs.declared.reply.Handle.{Handle}
use Rattle.journal_tree.specs.declared.reply.Told.{Told}
use Rattle.journal_tree.specs.declared.caller.Caller.{Caller}
use Rattle.journal_tree.specs.declared.status.Status.{Status}
use Rattle.journal_tree.specs.declared.status.Status.TheVariants.{Stale}
use Rattle.journal_tree.specs.Calls.{told as told_case}
use Rattle.journal_tree.specs.Listing.{dot_item}
use Rattle.journal_treestore.specs.declared.inode.Head.{Head}
use Rattle.journal_treestore.specs.declared.inode.Inode.{Inode}
use Rattle.journal_treestore.specs.declared.inode.Inode.TheVariants.{Free, Used}
use Rattle.journal_treestore.specs.Bytes.{with_piece}
use Rattle.journal_treestore.specs.Views.{Seen, View, held_of, seen, slot_of}
use Rattle.journal_treestore.specs.Views.Seen.{free, used}
use Rattle.journal_treecalls.specs.declared.node.Record.{Record}
use Rattle.journal_treecalls.specs.declared.lines.Line.{Line}
use Rattle.journal_treecalls.specs.declared.lines.Room.{Room}
use Rattle.journal_treecalls.specs.declared.lines.Page.{Page}
use Rattle.journal_treecalls.specs.declared.listing.ListReply.{ListReply}
use Rattle.journal_treecalls.specs.declared.seats.BlockNumbers.{BlockNumbers}
use Rattle.journal_treecalls.specs.Disks.{Learns}
use Rattle.journal_treecalls.specs.Targets.{told_of, IsInode, IsTarget, block_of}
use Rattle.journal_treecalls.specs.Seats.{number_of, HasBlocks, block_count}
use Rattle.journal_treecalls.specs.Replies.{number_above}
use Rattle.journal_treecalls.specs.Lines.{item_of, beside_of, IsLine, left_after, with_line, Adds, Shows}
use Rattle.journal_treecalls.specs.Walks.{IsNodeLine, all_items, ShowsBlocks}
use Rattle.journal_treecalls.specs.Listings.{listing_status, IsReplyOf, IsFullReply, dot_items, dot_dot_items, ShowsDot, ShowsDotDot, ListsDirectory, ListsNode, Lists}
use Rattle.journal_treecalls.specs.Listings.ListsNode.{kept, listing}
use Rattle.journal_treecalls.specs.Listings.Lists.{stale, of_node}
use Rattle.journal_treecalls.proofs.Learning.{learns-as, learns-then}
use Rattle.journal_treecalls.proofs.Cases.{told-is}
use Rattle.journal_treecalls.proofs.Walking.{shows-none, shows-append, shows-line, all-same}

-- ── a line ──

pub line-named : (cookie number : ℕ) (name : List ℕ) (generation : ℕ) (node : Option Told) (bytes : List ℕ) (l : Line) → bytes ≡ with_piece (replicate 255 0) 0 name → l ≡ record { cookie = cookie; number = number; name = bytes; name_bytes = length name; generation = generation; node = node } → IsLine l cookie number name generation node
line-named cookie number name generation node bytes l is line = record {
  item = ap item_of line ∙ ap (λ (w : List ℕ). record { cookie = cookie; name = w; number = number }) named;
  beside = ap beside_of line;
}
  where
    named : take (length name) bytes ≡ name
    named = ap (take (length name)) is ∙ take_at name (drop (0 + length name) (replicate 255 0)) (length name) refl

pub node-line : (l : Line) (cookie n : ℕ) (name : List ℕ) (h : Head) (t : Told) → t ≡ told_of n h → IsLine l cookie n name h.generation (Some t) → IsNodeLine l cookie n h name
node-line l cookie n name h t is line = subst (λ t. IsLine l cookie n name h.generation (Some t)) is line

-- ── a page ──

pub adds-none : (old new : Page) (l : Line) (left : Option Room) → left ≡ left_after old.room (item_of l) → left ≡ None → new.lines.items ≡ old.lines.items → new.room ≡ left → Adds old new l
adds-none old new l left is none same room = record {
  room = room ∙ is;
  lines = same ∙ sym (ap (λ o. with_line o old.lines.items l) (sym is ∙ none));
}

pub adds-some : (old new : Page) (l : Line) (left : Option Room) (r : Room) → left ≡ left_after old.room (item_of l) → left ≡ Some r → new.lines.items ≡ old.lines.items ++ l ∷ [] → new.room ≡ left → Adds old new l
adds-some old new l left r is some pushed room = record {
  room = room ∙ is;
  lines = pushed ∙ sym (ap (λ o. with_line o old.lines.items l) (sym is ∙ some));
}

-- ── `.` and `..` ──

pub dot-none : (may : View → Type 0) (d : ℕ) (h : Head) (cookie : ℕ) (p : Page) → cookie ≢ 0 → Learns may may (λ V. ShowsDot V d h cookie p p)
dot-none may d h cookie p some = record { before = λ V m. m; now = λ V m sound own at. subst (Shows V p p) (sym (ap (λ t. cond t (dot_item d ∷ []) []) (ne_eqb cookie 0 some))) (shows-none V p) }

pub dot-shown : (may : View → Type 0) (d : ℕ) (h : Head) (cookie : ℕ) (old new : Page) (l : Line) (t : Told) → cookie ≡ 0 → t ≡ told_of d h → IsLine l 1 d (46 ∷ []) h.generation (Some t) → Adds old new l → Learns may may (λ V. ShowsDot V d h cookie old new)
dot-shown may d h cookie old new l t none tells line adds = record {
  before = λ V m. m;
  now = λ V m sound own at. subst (Shows V old new) (sym (ap (λ t. cond t (dot_item d ∷ []) []) (eq-eqb cookie 0 none))) (shows-line V old new l (dot_item d) adds line.item
      (line.beside
      ∙ (λ i. record { generation = h.generation; node = Some ((tells ∙ sym (told-is V d (held_of h own) (sound.inodes d (held_of h own) at))) i) })
      ∙ ap (λ (y : Seen). record { generation = (slot_of V y).generation; node = option_map (told_case d) (slot_of V y).node }) (sym at)));
}

shown-dots : (V : View) (d : ℕ) (r : Record) (cookie above : ℕ) (old new : Page) → cookie ≤ 1 → above ≡ number_above d r → Shows V old new (record { cookie = 2; name = 46 ∷ 46 ∷ []; number = above } ∷ []) → Shows V old new (dot_dot_items (number_above d r) cookie)
shown-dots V d r cookie above old new few is s = subst (Shows V old new) (
    ap (λ n. record { cookie = 2; name = 46 ∷ 46 ∷ []; number = n } ∷ []) is
    ∙ sym (ap (λ t. cond t [] (record { cookie = 2; name = 46 ∷ 46 ∷ []; number = number_above d r } ∷ [])) (le-ltb 1 cookie few))) s

pub dots-used : (first last : View → Type 0) (d : ℕ) (r : Record) (cookie above : ℕ) (x : Inode) (h : Head) (old new : Page) (l : Line) (t : Told) → Learns first last (λ V. IsInode V above x) → x ≡ Used h → above ≡ number_above d r → cookie ≤ 1 → t ≡ told_of above h → IsLine l 2 above (46 ∷ 46 ∷ []) h.generation (Some t) → Adds old new l
    → Learns first last (λ V. ShowsDotDot V d r cookie old new)
dots-used first last d r cookie above x h old new l t k kind is few tells line adds = learns-as first last _ _ k (λ V m at sound.
    let here : V.inode above ≡ used (held_of h at.0) = at.1 ∙ ap (λ x. seen x at.0) kind in
    shown-dots V d r cookie above old new few is (shows-line V old new l (record { cookie = 2; name = 46 ∷ 46 ∷ []; number = above }) adds line.item
    (line.beside
    ∙ (λ i. record { generation = h.generation; node = Some ((tells ∙ sym (told-is V above (held_of h at.0) (sound.inodes above (held_of h at.0) here))) i) })
    ∙ ap (λ (y : Seen). record { generation = (slot_of V y).generation; node = option_map (told_case above) (slot_of V y).node }) (sym here))))

pub dots-free : (first last : View → Type 0) (d : ℕ) (r : Record) (cookie above : ℕ) (x : Inode) (g : ℕ) (old new : Page) (l : Line) → Learns first last (λ V. IsInode V above x) → x ≡ Free g → above ≡ number_above d r → cookie ≤ 1 → IsLine l 2 above (46 ∷ 46 ∷ []) g None → Adds old new l
    → Learns first last (λ V. ShowsDotDot V d r cookie old new)
dots-free first last d r cookie above x g old new l k kind is few line adds = learns-as first last _ _ k (λ V m at sound.
    let here : V.inode above ≡ free g = at.1 ∙ ap (λ x. seen x at.0) kind in
    shown-dots V d r cookie above old new few is (shows-line V old new l (record { cookie = 2; name = 46 ∷ 46 ∷ []; number = above }) adds line.item
    (line.beside ∙ ap (λ (y : Seen). record { generation = (slot_of V y).generation; node = option_map (told_case above) (slot_of V y).node }) (sym here))))

-- ── a listing ──

pub directory-listed : (first one two three last : View → Type 0) (d : ℕ) (r : Record) (cookie begin : ℕ) (room : Room) (fresh a b c : Page) (t : Told) (reply : Result ListReply Status) → fresh.lines.items ≡ [] → fresh.room ≡ Some room → Learns first one (λ V. ShowsDot V d r.head cookie fresh a) → Learns one two (λ V. ShowsDotDot V d r cookie a b)
    → begin ≡ cookie - 2 → (numbers : BlockNumbers) (count : ℕ) → count ≡ block_count r.head → Learns two three (λ V. HasBlocks V r.head numbers) → Learns three last (λ V. ShowsBlocks V begin numbers count b c) → t ≡ told_of d r.head → IsReplyOf t c reply → Learns first last (λ V. ListsDirectory V d r cookie room reply)
directory-listed first one two three last d r cookie begin room fresh a b c t reply bare all dot dots begin_is numbers count count_is read blocks tells replies = record {
  before = λ V m. dot.before V (dots.before V (read.before V (blocks.before V m)));
  now = λ V m sound at. record {
    fresh = fresh;
    page = c;
    bare = bare;
    all = all;
    shown = shows-append V fresh b c (dot_items d cookie ++ dot_dot_items (number_above d r) cookie) (all_items V (cookie - 2) (λ j. (block_of V r.head j).number) (block_count r.head))
        (shows-append V fresh a b (dot_items d cookie) (dot_dot_items (number_above d r) cookie) (dot.now V (dots.before V (read.before V (blocks.before V m))) sound (Rattle.journal_treestore.specs.Inodes.name_from r.bytes) at) (dots.now V (read.before V (blocks.before V m)) sound))
        (subst (λ n. Shows V b c (all_items V n (λ j. (block_of V r.head j).number) (block_count r.head))) begin_is (
        subst (λ n. Shows V b c (all_items V begin (λ j. (block_of V r.head j).number) n)) count_is (
        subst (Shows V b c) (all-same V begin (number_of numbers) (λ j. (block_of V r.head j).number) (read.now V (blocks.before V m)) count) (blocks.now V m sound))));
    told = subst (λ t. IsReplyOf t c reply) tells replies;
  };
}

pub reply-some : (t : Told) (p : Page) (r : Room) (l : ListReply) → p.room ≡ Some r → l.directory ≡ t → l.lines.items ≡ p.lines.items → l.is_end ≡ true → IsReplyOf t p (Ok l)
reply-some t p r l is directory lines ends = (directory, lines, ends ∙ sym (ap is_some is), (λ none. absurd (cc (sym is ∙ none))))

pub reply-none : (t : Told) (p : Page) (reply : Result ListReply Status) → p.room ≡ None → IsFullReply t p.lines.items reply → IsReplyOf t p reply
reply-none t p (Ok l) none k = (k.0, k.1, k.2 ∙ sym (ap is_some none), (λ _. k.3))
reply-none t p (Err status) none k = (k.0, none, k.1)

pub node-kept : (may : View → Type 0) (c : Caller) (d : ℕ) (r : Record) (cookie : ℕ) (room : Room) (o : Option Status) (status : Status) → o ≡ listing_status c r.head → o ≡ Some status → Learns may may (λ V. ListsNode V c d r cookie room (Err status))
node-kept may c d r cookie room o status is why = record { before = λ V m. m; now = λ V m. kept status (sym is ∙ why) }

pub node-listed : (first last : View → Type 0) (c : Caller) (d : ℕ) (r : Record) (cookie : ℕ) (room : Room) (o : Option Status) (reply : Result ListReply Status) → o ≡ listing_status c r.head → o ≡ None → Learns first last (λ V. ListsDirectory V d r cookie room reply) → Learns first last (λ V. ListsNode V c d r cookie room reply)
node-listed first last c d r cookie room o reply is on l = learns-as first last _ _ l (λ V m lists. listing reply (sym is ∙ on) lists)

pub list-none : (first last : View → Type 0) (c : Caller) (h : Handle) (cookie : ℕ) (room : Room) (found : Option Record) → Learns first last (λ V. IsTarget V h found) → found ≡ None → Learns first last (λ V. Lists V c h cookie room (Err Stale))
list-none first last c h cookie room found l is = learns-as first last _ _ l (λ V m t. stale (subst (IsTarget V h) is t))

pub list-some : (first mid last : View → Type 0) (c : Caller) (h : Handle) (cookie : ℕ) (room : Room) (found : Option Record) (r : Record) (reply : Result ListReply Status) → Learns first mid (λ V. IsTarget V h found) → found ≡ Some r → Learns mid last (λ V. ListsNode V c h.number r cookie room reply) → Learns first last (λ V. Lists V c h cookie room reply)
list-some first mid last c h cookie room found r reply l is k = learns-then first mid last _ _ l k _ (λ V m t lists. of_node r reply (subst (IsTarget V h) is t) lists)
