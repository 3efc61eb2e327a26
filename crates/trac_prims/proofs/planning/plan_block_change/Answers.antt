use Rattle.trac_prims.proofs.planning.plan_block_change.Goals as goal

pub returns-in-StoreBlock : goal.returns-in-StoreBlock
returns-in-StoreBlock g c = rw c.in-StoreBlock.is c.store_block.ensures

pub returns-in-FetchBlock : goal.returns-in-FetchBlock
returns-in-FetchBlock g c = rw c.in-FetchBlock.is c.fetch_block.ensures

pub returns-in-EraseBlock : goal.returns-in-EraseBlock
returns-in-EraseBlock g c = rw c.in-EraseBlock.is c.erase_block.ensures
