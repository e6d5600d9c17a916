-- The meaning of the code's answers.
use Rattle.std.specs.Prelude.{ℕ, List, map, None}
use Rattle.journal_tree.specs.Attributes.{Access as TreeAccess}
use Rattle.journal_tree.specs.Contents.{Portion}
use Rattle.journal_tree.specs.Facts.{Facts, NameFacts}
use Rattle.journal_tree.specs.Listing.{Listed, ListedPlus}
use Rattle.journal_tree.specs.Names.{LinkText as TreeLinkText}
use Rattle.journal_treecalls.specs.declared.attributes.AccessReply.{AccessReply}
use Rattle.journal_treecalls.specs.declared.facts.FactsReply.{FactsReply}
use Rattle.journal_treecalls.specs.declared.facts.NameFactsReply.{NameFactsReply}
use Rattle.journal_treecalls.specs.declared.lines.Line.{Line}
use Rattle.journal_treecalls.specs.Lines.{item_of, beside_of}
use Rattle.journal_treecalls.specs.Listings as lists
use Rattle.journal_xdr.specs.Lists.{link_text}
use Rattle.journal_nfs3_wire.specs.Results.{ReadResults}
use Rattle.journal_nfs3_wire.specs.QueryResults.{Entry, entry, AccessResults, PageResults, InformationResults, ConfigurationResults}
use Rattle.journal_nfs3_wire.specs.Profile.{no_change, outcome_of}
use Rattle.journal_treewire.specs.declared.parts.FilePart.{FilePart}
use Rattle.journal_treewire.specs.declared.parts.Lines.{Lines}
use Rattle.journal_treewire.specs.declared.parts.ShortText.{ShortText}
use Rattle.journal_treewire.specs.declared.results.TreeResults as code_results
use Rattle.journal_treewire.specs.declared.results.TreeResults.TheVariants as code_result
use Rattle.journal_treewire.specs.Profile.{fattr_of, change_of, found_of, access_of, link_of, read_of, write_of, made_of, renamed_of, no_changes, entry_of, entry_plus_of, list_of, list_plus_of, status_of, information_of, configuration_of, commit_of}
use Rattle.journal_treewire.specs.Results.{EntryPlus, entry_plus, LinkResults, Results, Null, Attributes, Changed, Found, Access, LinkText, Read, Write, Made, Renamed, NotLinked, Directory, DirectoryPlus, FileSystemStatus, FileSystemInformation, PathConfiguration, Commit}

-- ---- the replies of the definitions

abbrev pub access_told : AccessReply → TreeAccess
access_told a = record { node = a.node; rights = a.rights }

abbrev pub link_told : ShortText → TreeLinkText
link_told t = record { node = t.reply.node; text = t.reply.text.items }

abbrev pub part_told : FilePart → Portion
part_told p = record { file = p.reply.file; bytes = p.reply.bytes.items; is_end = p.reply.is_end }

abbrev pub lines_told : Lines → Listed
lines_told l = record { directory = l.reply.directory; page = lists.page_of l.reply }

abbrev pub lines_plus_told : Lines → ListedPlus
lines_plus_told l = record { directory = l.reply.directory; page = lists.page_of l.reply; lines = map beside_of l.reply.lines.items }

abbrev pub facts_told : FactsReply → Facts
facts_told f = record { node = f.node; transfer = f.transfer; multiple = f.multiple; file = f.file; step_secs = f.step_secs; step_nanos = f.step_nanos; properties = f.properties }

abbrev pub name_facts_told : NameFactsReply → NameFacts
name_facts_told f = record {
  node = f.node;
  links = f.links;
  name = f.name;
  refuses_long = f.refuses_long;
  owner_restricted = f.owner_restricted;
  ignores_case = f.ignores_case;
  keeps_case = f.keeps_case;
}

-- ---- and their results

abbrev pub access_seen : ℕ → AccessReply → AccessResults
access_seen disk a = access_of disk (access_told a)

abbrev pub link_seen : ℕ → ShortText → LinkResults
link_seen disk t = link_of disk (link_told t)

abbrev pub read_seen : ℕ → FilePart → ReadResults
read_seen disk p = read_of disk (part_told p)

abbrev pub line_seen : Line → Entry
line_seen l = entry_of (item_of l)

abbrev pub line_plus_seen : ℕ → Line → EntryPlus
line_plus_seen disk l = entry_plus_of disk (item_of l) (beside_of l)

-- a line of a listing, after true, which says that there is one
abbrev pub line_text : Line → List ℕ
line_text l = link_text entry.spelling (line_seen l)

abbrev pub line_plus_text : ℕ → Line → List ℕ
line_plus_text disk l = link_text entry_plus.spelling (line_plus_seen disk l)

abbrev pub list_seen : ℕ → Lines → PageResults Entry
list_seen disk l = list_of disk (lines_told l)

abbrev pub list_plus_seen : ℕ → Lines → PageResults EntryPlus
list_plus_seen disk l = list_plus_of disk (lines_plus_told l)

abbrev pub information_seen : ℕ → FactsReply → InformationResults
information_seen disk f = information_of disk (facts_told f)

abbrev pub configuration_seen : ℕ → NameFactsReply → ConfigurationResults
configuration_seen disk f = configuration_of disk (name_facts_told f)

abbrev pub results_of : ℕ → code_results.TreeResults → Results
results_of disk code_result.Null = Null
results_of disk (code_result.Attributes r) = Attributes (outcome_of (fattr_of disk) tt r)
results_of disk (code_result.Changed r) = Changed (outcome_of (change_of disk) no_change r)
results_of disk (code_result.Found r) = Found (outcome_of (found_of disk) None r)
results_of disk (code_result.Access r) = Access (outcome_of (access_seen disk) None r)
results_of disk (code_result.LinkText r) = LinkText (outcome_of (link_seen disk) None r)
results_of disk (code_result.Read r) = Read (outcome_of (read_seen disk) None r)
results_of disk (code_result.Write r count how verifier) = Write (outcome_of (write_of disk count how verifier.0) no_change r)
results_of disk (code_result.Made r) = Made (outcome_of (made_of disk) no_change r)
results_of disk (code_result.Renamed r) = Renamed (outcome_of (renamed_of disk) no_changes r)
results_of disk (code_result.NotLinked why) = NotLinked why (None, no_change)
results_of disk (code_result.Directory r) = Directory (outcome_of (list_seen disk) None r)
results_of disk (code_result.DirectoryPlus r) = DirectoryPlus (outcome_of (list_plus_seen disk) None r)
results_of disk (code_result.FileSystemStatus r) = FileSystemStatus (outcome_of (status_of disk) None r)
results_of disk (code_result.FileSystemInformation r) = FileSystemInformation (outcome_of (information_seen disk) None r)
results_of disk (code_result.PathConfiguration r) = PathConfiguration (outcome_of (configuration_seen disk) None r)
results_of disk (code_result.Commit r verifier) = Commit (outcome_of (commit_of disk verifier.0) no_change r)
