pub mod Affixes
pub mod Exclusions
pub mod Hosts
pub mod Ipv4
pub mod Paths
pub mod Scale
