use Rattle.journal_nfs3_wire.specs.Queries.{page_of, page_plus_of}
use Rattle.journal_mount3.proofs.Telling.{access_query, status_query, information_query, configuration_query, lists_plain, lists_plus}
use Rattle.journal_mount3.proofs.serving.serve_query.Goals as goal

pub returns-in-Access : goal.returns-in-Access
returns-in-Access g c = rw c.in-Access.is (access_query g.V.Version.VERSION c.args.layout.blocks c.args.now _ _ _ _ c.grant.result c.grant.ensures)

pub returns-in-ReadDirectory : goal.returns-in-ReadDirectory
returns-in-ReadDirectory g c =
    rw c.in-ReadDirectory.is
    (lists_plain g.V.Version.VERSION c.args.layout.blocks c.args.now (page_of c.in-ReadDirectory.page) _ _ c.plain_room-room.result c.list.result c.plain_room-room.ensures.some c.plain_room-room.ensures.none c.list.ensures.lists)

pub returns-in-ReadDirectoryPlus : goal.returns-in-ReadDirectoryPlus
returns-in-ReadDirectoryPlus g c =
    rw c.in-ReadDirectoryPlus.is
    (lists_plus g.V.Version.VERSION c.args.layout.blocks c.args.now (page_plus_of c.in-ReadDirectoryPlus.page) _ _ c.plus_room-room.result c.list-in-ReadDirectoryPlus.result c.plus_room-room.ensures.some c.plus_room-room.ensures.none c.list-in-ReadDirectoryPlus.ensures.shown c.list-in-ReadDirectoryPlus.ensures.lists)

pub returns-in-FileSystemStatus : goal.returns-in-FileSystemStatus
returns-in-FileSystemStatus g c = rw c.in-FileSystemStatus.is (status_query g.V.Version.VERSION c.args.layout.blocks c.args.now _ _ _ c.measure.result c.measure.ensures)

pub returns-in-FileSystemInformation : goal.returns-in-FileSystemInformation
returns-in-FileSystemInformation g c = rw c.in-FileSystemInformation.is (information_query g.V.Version.VERSION c.args.layout.blocks c.args.now _ _ _ c.tell.result c.tell.ensures)

pub returns-in-PathConfiguration : goal.returns-in-PathConfiguration
returns-in-PathConfiguration g c =
    rw c.in-PathConfiguration.is (configuration_query g.V.Version.VERSION c.args.layout.blocks c.args.now _ _ _ c.tell-in-PathConfiguration.result c.tell-in-PathConfiguration.ensures)
