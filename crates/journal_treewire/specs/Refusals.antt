-- The results of requests that are refused: the status alone.
use Rattle.std.specs.Prelude.{None, Err}
use Rattle.journal_nfs3_wire.specs.declared.results.NfsError.{NfsError}
use Rattle.journal_nfs3_wire.specs.Arguments as nine
use Rattle.journal_nfs3_wire.specs.Profile.{no_change}
use Rattle.journal_nfs3_wire.specs.Queries as query
use Rattle.journal_treewire.specs.Directories as links
use Rattle.journal_treewire.specs.Profile.{no_changes}
use Rattle.journal_treewire.specs.Requests.{Requested, Requested as requested, file, directory}
use Rattle.journal_treewire.specs.Results.{Results, Null, Attributes, Changed, Found, Access, LinkText, Read, Write, Made, Renamed, NotLinked, Directory, DirectoryPlus, FileSystemStatus, FileSystemInformation, PathConfiguration, Commit}

-- NULL is never refused
abbrev pub refused_file : nine.Operation → NfsError → Results
refused_file nine.Null why = Null
refused_file (nine.GetAttributes h) why = Attributes (Err (why, tt))
refused_file (nine.SetAttributes h a guard) why = Changed (Err (why, no_change))
refused_file (nine.Lookup e) why = Found (Err (why, None))
refused_file (nine.Read h offset count) why = Read (Err (why, None))
refused_file (nine.Write h offset count how bytes) why = Write (Err (why, no_change))
refused_file (nine.Create e how) why = Made (Err (why, no_change))
refused_file (nine.Remove e) why = Changed (Err (why, no_change))
refused_file (nine.Commit h offset count) why = Commit (Err (why, no_change))

abbrev pub refused_query : query.Query → NfsError → Results
refused_query (query.Access h asked) why = Access (Err (why, None))
refused_query (query.ReadDirectory p) why = Directory (Err (why, None))
refused_query (query.ReadDirectoryPlus p) why = DirectoryPlus (Err (why, None))
refused_query (query.FileSystemStatus h) why = FileSystemStatus (Err (why, None))
refused_query (query.FileSystemInformation h) why = FileSystemInformation (Err (why, None))
refused_query (query.PathConfiguration h) why = PathConfiguration (Err (why, None))

abbrev pub refused_directory : links.DirectoryOperation → NfsError → Results
refused_directory (links.ReadLink h) why = LinkText (Err (why, None))
refused_directory (links.MakeDirectory e a) why = Made (Err (why, no_change))
refused_directory (links.MakeLink a) why = Made (Err (why, no_change))
refused_directory (links.MakeNode e d) why = Made (Err (why, no_change))
refused_directory (links.RemoveDirectory e) why = Changed (Err (why, no_change))
refused_directory (links.Rename e f) why = Renamed (Err (why, no_changes))
refused_directory (links.Link h e) why = NotLinked why (None, no_change)

abbrev pub refused_request : Requested → NfsError → Results
refused_request (file o) why = refused_file o why
refused_request (requested.query q) why = refused_query q why
refused_request (directory d) why = refused_directory d why
