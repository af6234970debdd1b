-- Files of facets: what they hold, and what reading one answers and leaves.
pub mod FirstUse
pub mod File
pub mod Reading
