-- The text of lines.
use Rattle.std.proofs.Common.{◌≡◌, ℕ, ◌+◌, ◌<◌, ◌≤◌, ◌^◌, true, false, List, [], ◌∷◌, ◌++◌, length, take, get_or, None, Ok, Err, refl, ap, ◌∙◌, arith, length-append, append-nil}
use Rattle.std.specs.Prelude.{flat_map, map}
use Rattle.std.proofs.lemmas.List.{length-take, take_more}
use Rattle.std.proofs.lemmas.List.Concat.{flat_map-append}
use Rattle.journal_xdr.specs.Items.{Item}
use Rattle.journal_xdr.specs.Basic.{hyper, boolean, fixed, string, optional}
use Rattle.journal_xdr.specs.BasicLaws.{length-hyper, length-boolean, opaque_short}
use Rattle.journal_xdr.specs.Lists.{link_text, list_text}
use Rattle.journal_treecalls.specs.declared.lines.Line.{Line}
use Rattle.journal_treecalls.specs.Lines.{item_of, beside_of}
use Rattle.journal_nfs3_wire.specs.Arguments.{name}
use Rattle.journal_nfs3_wire.specs.declared.results.NfsError.{NfsError}
use Rattle.journal_nfs3_wire.specs.QueryResults.{entry, PageResults, page_results}
use Rattle.journal_nfs3_wire.specs.Results.{post_op_attributes, outcome}
use Rattle.journal_nfs3_wire.proofs.ResultFacts.{after_short, length-verifier, ok_short, err_short}
use Rattle.journal_treewire.specs.declared.parts.Lines.{Lines}
use Rattle.journal_treewire.specs.CodeViews.{line_seen, line_plus_seen, line_text, line_plus_text, list_seen, list_plus_seen}
use Rattle.journal_treewire.specs.Profile.{entry_of, entries_plus}
use Rattle.journal_treewire.specs.Results.{given_handle, entry_plus}
use Rattle.journal_treewire.proofs.Short.{handle_short}

links : (ls : List Line) → flat_map (link_text entry.spelling) (map entry_of (map item_of ls)) ≡ flat_map line_text ls
links [] = refl
links (l ∷ ls) = ap (λ (t : List ℕ). line_text l ++ t) (links ls)

links_plus : (disk : ℕ) (ls : List Line) → flat_map (link_text entry_plus.spelling) (entries_plus disk (map item_of ls) (map beside_of ls)) ≡ flat_map (line_plus_text disk) ls
links_plus disk [] = refl
links_plus disk (l ∷ ls) = ap (λ (t : List ℕ). line_plus_text disk l ++ t) (links_plus disk ls)

pub lines_are : (ls : List Line) → list_text entry.spelling (map entry_of (map item_of ls)) ≡ flat_map line_text ls ++ boolean.spelling false
lines_are ls = ap (λ (t : List ℕ). t ++ boolean.spelling false) (links ls)

pub lines_plus_are : (disk : ℕ) (ls : List Line) → list_text entry_plus.spelling (entries_plus disk (map item_of ls) (map beside_of ls)) ≡ flat_map (line_plus_text disk) ls ++ boolean.spelling false
lines_plus_are disk ls = ap (λ (t : List ℕ). t ++ boolean.spelling false) (links_plus disk ls)

-- ---- how long a line is

name_short : (n : ℕ) (bytes : List ℕ) → length (name.spelling (take n bytes)) ≤ n + 7
unfolding string
name_short n bytes = omega (arith, opaque_short 4294967295 (take n bytes), length-take n bytes)

entry_short : (l : Line) → length (entry.spelling (line_seen l)) ≤ l.name_bytes + 23
unfolding entry
entry_short l =
    let number = hyper.spelling l.number in
    let called = name.spelling (take l.name_bytes l.name) in
    let cookie = hyper.spelling l.cookie in
    omega (arith, length-append number (called ++ cookie), length-append called cookie, length-hyper l.number, length-hyper l.cookie, name_short l.name_bytes l.name)

plus_short : (disk : ℕ) (l : Line) → length (entry_plus.spelling (line_plus_seen disk l)) ≤ l.name_bytes + 135
unfolding entry_plus
plus_short disk l =
    let e = entry.spelling (line_seen l) in
    let a = post_op_attributes.spelling (line_plus_seen disk l).attributes in
    let h = (optional given_handle).spelling (line_plus_seen disk l).object in
    omega (arith, length-append e (a ++ h), length-append a h, entry_short l, after_short (line_plus_seen disk l).attributes, handle_short (line_plus_seen disk l).object)

line_short : (l : Line) → length (line_text l) ≤ l.name_bytes + 148
line_short l = omega (arith, length-append (boolean.spelling true) (entry.spelling (line_seen l)), length-boolean true, entry_short l)

line_plus_short : (disk : ℕ) (l : Line) → length (line_plus_text disk l) ≤ l.name_bytes + 148
line_plus_short disk l = omega (arith, length-append (boolean.spelling true) (entry_plus.spelling (line_plus_seen disk l)), length-boolean true, plus_short disk l)

-- Lines before an index have no more bytes than this number
pub record Counted (disk : ℕ) (lines : List Line) (room : ℕ) : Type 0 where
  pub plain : length (flat_map line_text lines) ≤ room
  pub plus : length (flat_map (line_plus_text disk) lines) ≤ room

text_more : (f : Line → List ℕ) (lines : List Line) (l : Line) → length (flat_map f (lines ++ l ∷ [])) ≡ length (flat_map f lines) + length (f l)
text_more f lines l =
    let all = flat_map-append f lines (l ∷ []) in
    ap length all ∙ length-append (flat_map f lines) (flat_map f (l ∷ [])) ∙ ap (λ (t : List ℕ). length (flat_map f lines) + length t) (append-nil (f l))

counts_one_more : (disk : ℕ) (lines : List Line) (l : Line) (room : ℕ) → Counted disk lines room → Counted disk (lines ++ l ∷ []) (room + (148 + l.name_bytes))
counts_one_more disk lines l room c = record {
  plain = omega (arith, c.plain, text_more line_text lines l, line_short l);
  plus = omega (arith, c.plus, text_more (line_plus_text disk) lines l, line_plus_short disk l);
}

pub counts_at : (disk k : ℕ) (lines : List Line) (d : Line) (room n : ℕ) → k < length lines → n ≡ 148 + (get_or lines k d).name_bytes → Counted disk (take k lines) room → Counted disk (take (k + 1) lines) (room + n)
counts_at disk k lines d room n low is c = rw (is, take_more lines k d low) (counts_one_more disk (take k lines) (get_or lines k d) room c)

-- ---- a reply with lines

page_long : {E : Type 0} (element : Item E) (r : PageResults E) (most : ℕ) → length r.verifier ≡ 8 → length (list_text element.spelling r.entries) ≤ most → length ((page_results element).spelling r) ≤ 100 + most
unfolding page_results
page_long element r most long h =
    let a = post_op_attributes.spelling r.attributes in
    let v = (fixed 8).spelling r.verifier in
    let e = list_text element.spelling r.entries in
    let t = boolean.spelling r.is_end in
    omega (arith, h, length-append a (v ++ (e ++ t)), length-append v (e ++ t), length-append e t, after_short r.attributes, length-verifier r.verifier long, length-boolean r.is_end)

pub page_result : {E : Type 0} (element : Item E) (r : PageResults E) (most : ℕ) → length r.verifier ≡ 8 → length (list_text element.spelling r.entries) ≤ most → most ≤ 1200000 → length ((outcome (page_results element) post_op_attributes).spelling (Ok r)) < 2 ^ 30
page_result element r most long h few = omega (arith, few, ok_short (page_results element) post_op_attributes r (100 + most) (page_long element r most long h))

pub no_page : {E : Type 0} (element : Item E) (why : NfsError) → length ((outcome (page_results element) post_op_attributes).spelling (Err (why, None))) < 2 ^ 30
no_page element why = omega (arith, err_short (page_results element) post_op_attributes why None 88 (after_short None))

pub list_result : (disk : ℕ) (l : Lines) (room : ℕ) → length (flat_map line_text l.reply.lines.items) ≤ room → room ≤ 1100190 → length ((outcome (page_results entry) post_op_attributes).spelling (Ok (list_seen disk l))) < 2 ^ 30
list_result disk l room h few =
    let ls = l.reply.lines.items in
    let text = flat_map line_text ls in
    page_result entry (list_seen disk l) (room + 4) refl
    (omega (arith, h, ap length (lines_are ls), length-append text (boolean.spelling false), length-boolean false)) (omega (arith, few))

pub list_plus_result : (disk : ℕ) (l : Lines) (room : ℕ) → length (flat_map (line_plus_text disk) l.reply.lines.items) ≤ room → room ≤ 1100190 → length ((outcome (page_results entry_plus) post_op_attributes).spelling (Ok (list_plus_seen disk l))) < 2 ^ 30
list_plus_result disk l room h few =
    let ls = l.reply.lines.items in
    let text = flat_map (line_plus_text disk) ls in
    page_result entry_plus (list_plus_seen disk l) (room + 4) refl
    (omega (arith, h, ap length (lines_plus_are disk ls), length-append text (boolean.spelling false), length-boolean false)) (omega (arith, few))
