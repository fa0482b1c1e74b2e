-- `write::append_main` meets its contract: the actions by the table are the block without its End. Assumes nothing.
use Rattle.write.proofs.Block.{put_appended}
use Rattle.write.proofs.Main.{main_room, main_put}
use Rattle.write.proofs.append_main.Goals as goal

pub write_actions-end-requires : goal.write_actions-end-requires
write_actions-end-requires c = main_room c.args.m.now _ _ c.requires.1 c.requires.0

pub returns-clause-appends : goal.returns-clause-appends
returns-clause-appends c =
    put_appended _ _ _ _ _ c.requires.0 (main_put c.args.m.now _ _ c.requires.1 _ _ c.requires.0 c.write_actions-end.ensures)
