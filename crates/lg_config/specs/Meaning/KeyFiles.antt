-- The file that has the keys of a node's group: its path (this project's choice). What the file says is defined in
-- `lg_seal`.
use Rattle.std.specs.Prelude.{ℕ, List, codes, Option, Some, None, ok_or, Result, Ok, Err}
use Rattle.std.specs.Option.{option_map}
use Rattle.toml.specs.Data.{Members}
use Rattle.lg_config.specs.declared.fault.FileFault.{FileFault}
use Rattle.lg_config.specs.declared.fault.FileFault.TheVariants as fault
use Rattle.lg_config.specs.declared.node.NodeConfig.{NodeConfig}
use Rattle.lg_config.specs.Meaning.Paths.{path_of}
use Rattle.lg_config.specs.Meaning.Settings.{text_at}

-- the path at the key of the file, by the text there; there is no such file if the key is missing
abbrev pub key_file_of : Option (List ℕ) → Result (Option (List ℕ)) FileFault
key_file_of None = Ok None
key_file_of (Some text) = ok_or (option_map (λ path. Some path) (path_of text)) fault.KeyFile

-- the same of a document
abbrev pub key_file_in : Members → Result (Option (List ℕ)) FileFault
key_file_in members = key_file_of (text_at (codes "key_file") members)

-- settings with that path, or its fault
abbrev pub with_key_file : NodeConfig → Result (Option (List ℕ)) FileFault → Result NodeConfig FileFault
with_key_file node (Ok path) = Ok (record node { key_file = path })
with_key_file node (Err found) = Err found
