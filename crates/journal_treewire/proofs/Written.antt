-- Results as they are written, one item after another.
use Rattle.std.proofs.Common.{◌≡◌, ℕ, List, ◌++◌, Some, None, Ok, false, refl, append_assoc}
use Rattle.std.specs.Prelude.{flat_map}
use Rattle.journal_xdr.specs.Items.{Writes}
use Rattle.journal_xdr.specs.Basic.{word, hyper, boolean, fixed, opaque}
use Rattle.journal_tree.specs.declared.reply.Space.{Space}
use Rattle.journal_treecalls.specs.declared.facts.FactsReply.{FactsReply}
use Rattle.journal_treecalls.specs.declared.facts.NameFactsReply.{NameFactsReply}
use Rattle.journal_nfs3_wire.specs.Arguments.{time}
use Rattle.journal_nfs3_wire.specs.QueryResults.{entry, page_results, status_results, information_results, configuration_results}
use Rattle.journal_nfs3_wire.specs.Results.{status, outcome, post_op_attributes}
use Rattle.journal_treewire.specs.declared.parts.Lines.{Lines}
use Rattle.journal_treewire.specs.CodeViews.{information_seen, configuration_seen, line_text, line_plus_text, list_seen, list_plus_seen}
use Rattle.journal_treewire.specs.Handles.{DiskHandle, disk_handle}
use Rattle.journal_treewire.specs.Profile.{fattr_of, word_of, status_of, cookie_verifier}
use Rattle.journal_treewire.specs.Results.{given_handle, entry_plus}
use Rattle.journal_treewire.proofs.LineTexts.{lines_are, lines_plus_are}

handle_text : (h : DiskHandle) → given_handle.spelling h ≡ word.spelling 16 ++ (hyper.spelling h.disk ++ (word.spelling h.handle.number ++ word.spelling h.handle.generation))
unfolding given_handle opaque fixed disk_handle word hyper
handle_text h = refl

pub wrote_handle : (h : DiskHandle) (a b c d e : List ℕ) → b ≡ a ++ word.spelling 16 → c ≡ b ++ hyper.spelling h.disk → d ≡ c ++ word.spelling h.handle.number → e ≡ d ++ word.spelling h.handle.generation
    → e ≡ a ++ given_handle.spelling h
wrote_handle h a b c d e is_b is_c is_d is_e = rw (is_e, is_d, is_c, is_b, handle_text h) (simp append_assoc)

pub wrote_space : (disk : ℕ) (s : Space) (s0 s1 s2 s3 s4 s5 s6 s7 s8 s9 : List ℕ) → s1 ≡ s0 ++ status.spelling None → s2 ≡ s1 ++ post_op_attributes.spelling (Some (fattr_of disk s.node)) → s3 ≡ s2 ++ hyper.spelling s.total_bytes → s4 ≡ s3 ++ hyper.spelling s.free_bytes
    → s5 ≡ s4 ++ hyper.spelling s.free_bytes → s6 ≡ s5 ++ hyper.spelling s.total_nodes → s7 ≡ s6 ++ hyper.spelling s.free_nodes → s8 ≡ s7 ++ hyper.spelling s.free_nodes → s9 ≡ s8 ++ word.spelling 0
    → Writes (outcome status_results post_op_attributes) (Ok (status_of disk s)) s0 s9
unfolding status_results
wrote_space disk s s0 s1 s2 s3 s4 s5 s6 s7 s8 s9 e1 e2 e3 e4 e5 e6 e7 e8 e9 = rw (e9, e8, e7, e6, e5, e4, e3, e2, e1) (simp append_assoc)

pub wrote_information : (disk : ℕ) (f : FactsReply) (multiple : ℕ) (s0 s1 s2 s3 s4 s5 s6 s7 s8 s9 s10 s11 s12 : List ℕ) → multiple ≡ word_of f.multiple → s1 ≡ s0 ++ status.spelling None → s2 ≡ s1 ++ post_op_attributes.spelling (Some (fattr_of disk f.node))
    → s3 ≡ s2 ++ word.spelling f.transfer → s4 ≡ s3 ++ word.spelling f.transfer → s5 ≡ s4 ++ word.spelling multiple → s6 ≡ s5 ++ word.spelling f.transfer → s7 ≡ s6 ++ word.spelling f.transfer → s8 ≡ s7 ++ word.spelling multiple
    → s9 ≡ s8 ++ word.spelling f.transfer → s10 ≡ s9 ++ hyper.spelling f.file → s11 ≡ s10 ++ time.spelling (record { secs = f.step_secs; nanos = f.step_nanos }) → s12 ≡ s11 ++ word.spelling f.properties
    → Writes (outcome information_results post_op_attributes) (Ok (information_seen disk f)) s0 s12
unfolding information_results
wrote_information disk f multiple s0 s1 s2 s3 s4 s5 s6 s7 s8 s9 s10 s11 s12 multiple_is e1 e2 e3 e4 e5 e6 e7 e8 e9 e10 e11 e12 = rw (e12, e11, e10, e9, e8, e7, e6, e5, e4, e3, e2, e1, multiple_is) (simp append_assoc)

pub wrote_list : (disk : ℕ) (l : Lines) (s0 s1 s2 s3 s4 s5 : List ℕ) → s1 ≡ s0 ++ status.spelling None → s2 ≡ s1 ++ post_op_attributes.spelling (Some (fattr_of disk l.reply.directory)) → s3 ≡ s2 ++ (fixed 8).spelling cookie_verifier
    → s4 ≡ s3 ++ (flat_map line_text l.reply.lines.items ++ boolean.spelling false) → s5 ≡ s4 ++ boolean.spelling l.reply.is_end → Writes (outcome (page_results entry) post_op_attributes) (Ok (list_seen disk l)) s0 s5
unfolding page_results
wrote_list disk l s0 s1 s2 s3 s4 s5 e1 e2 e3 e4 e5 = rw (e5, e4, e3, e2, e1, lines_are l.reply.lines.items) (simp append_assoc)

pub wrote_list_plus : (disk : ℕ) (l : Lines) (s0 s1 s2 s3 s4 s5 : List ℕ) → s1 ≡ s0 ++ status.spelling None → s2 ≡ s1 ++ post_op_attributes.spelling (Some (fattr_of disk l.reply.directory)) → s3 ≡ s2 ++ (fixed 8).spelling cookie_verifier
    → s4 ≡ s3 ++ (flat_map (line_plus_text disk) l.reply.lines.items ++ boolean.spelling false) → s5 ≡ s4 ++ boolean.spelling l.reply.is_end → Writes (outcome (page_results entry_plus) post_op_attributes) (Ok (list_plus_seen disk l)) s0 s5
unfolding page_results
wrote_list_plus disk l s0 s1 s2 s3 s4 s5 e1 e2 e3 e4 e5 = rw (e5, e4, e3, e2, e1, lines_plus_are disk l.reply.lines.items) (simp append_assoc)

pub wrote_configuration : (disk : ℕ) (f : NameFactsReply) (longest : ℕ) (s0 s1 s2 s3 s4 s5 s6 s7 s8 : List ℕ) → longest ≡ word_of f.name → s1 ≡ s0 ++ status.spelling None → s2 ≡ s1 ++ post_op_attributes.spelling (Some (fattr_of disk f.node)) → s3 ≡ s2 ++ word.spelling f.links
    → s4 ≡ s3 ++ word.spelling longest → s5 ≡ s4 ++ boolean.spelling f.refuses_long → s6 ≡ s5 ++ boolean.spelling f.owner_restricted → s7 ≡ s6 ++ boolean.spelling f.ignores_case → s8 ≡ s7 ++ boolean.spelling f.keeps_case
    → Writes (outcome configuration_results post_op_attributes) (Ok (configuration_seen disk f)) s0 s8
unfolding configuration_results
wrote_configuration disk f longest s0 s1 s2 s3 s4 s5 s6 s7 s8 longest_is e1 e2 e3 e4 e5 e6 e7 e8 = rw (e8, e7, e6, e5, e4, e3, e2, e1, longest_is) (simp append_assoc)
