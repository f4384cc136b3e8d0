mod WithBlocks
