-- The text of the usage.
use Rattle.std.specs.Prelude.{ℕ, List, codes}

-- all commands, those that are not built yet included
abbrev pub usage_text : List ℕ
usage_text =
    codes "usage: cpdb scratch KIND [JSON]\nusage: cpdb init STORE KIND [JSON]\nusage: cpdb run STORE [CURATOR]\nusage: cpdb commit STORE FILE [CURATOR]\nusage: cpdb load STORE NAME json FILE\nusage: cpdb load STORE NAME csv FILE [COLUMN]\nusage: cpdb query STORE STATEMENT\nusage: cpdb verify STORE\nusage: cpdb checkpoint STORE\nusage: cpdb gen SEED COUNT KIND\nusage: cpdb log STORE\nusage: cpdb at STORE TID STATEMENT\nusage: cpdb archive STORE\nusage: cpdb share STORE\nusage: cpdb uses STORE PLACE\n"
