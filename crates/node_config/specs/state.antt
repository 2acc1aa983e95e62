pub mod EvictionConfig
