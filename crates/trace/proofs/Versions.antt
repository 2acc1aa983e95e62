-- The version of the format, and the node.
use Rattle.std.proofs.Common.{◌≡◌, true, Option, Some, None, is_some, refl}
use Rattle.std.specs.Prelude.{option_map}
use Rattle.node_config.specs.declared.node.NodeConfig.{NodeConfig}
use Rattle.node_config.specs.declared.node.Version.{Version}

-- without a version there is no node
pub no_node : (node : Option NodeConfig) → option_map (λ (n : NodeConfig). n.version) node ≡ None → node ≡ None
no_node None none = refl
no_node (Some node) none = absurd (cc)

-- with one there is
pub some_node : (node : Option NodeConfig) (version : Version) → option_map (λ (n : NodeConfig). n.version) node
    ≡ Some version → is_some node ≡ true
some_node None version is = absurd (cc)
some_node (Some node) version is = refl
