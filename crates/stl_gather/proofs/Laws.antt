-- The laws of points met through buckets, each file for one idea.
pub mod Buckets
pub mod Walks
pub mod Racks
pub mod Facets
